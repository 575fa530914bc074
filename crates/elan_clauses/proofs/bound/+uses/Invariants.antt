use Rattle.elan_terms.specs.Weight.{pattern_weight, pattern_weights}
use Rattle.elan_clauses.proofs.bound.+uses.Given as goal

abbrev pub decreases-all_use : goal.decreases-all_use
decreases-all_use l = pattern_weights l.patterns.now

abbrev pub decreases-uses : goal.decreases-uses
decreases-uses l = pattern_weight l.pattern.now
