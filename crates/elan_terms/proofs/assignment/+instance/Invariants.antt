use Rattle.elan_terms.specs.Weight.{pattern_weight, pattern_weights}
use Rattle.elan_terms.proofs.assignment.+instance.Given as goal

abbrev pub decreases-instance : goal.decreases-instance
decreases-instance l = pattern_weight l.pattern.now

abbrev pub decreases-instances_onto : goal.decreases-instances_onto
decreases-instances_onto l = pattern_weights l.patterns.now
