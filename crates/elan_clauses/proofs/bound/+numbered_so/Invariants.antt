use Rattle.elan_terms.specs.Weight.{pattern_weight, pattern_weights}
use Rattle.elan_clauses.proofs.bound.+numbered_so.Given as goal

abbrev pub decreases-numbered_so : goal.decreases-numbered_so
decreases-numbered_so l = pattern_weight l.pattern.now

abbrev pub decreases-numbered_onto : goal.decreases-numbered_onto
decreases-numbered_onto l = pattern_weights l.patterns.now
