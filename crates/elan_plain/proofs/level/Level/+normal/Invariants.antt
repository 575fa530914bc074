use Rattle.elan_terms.specs.Weight.{pattern_weight, pattern_weights}
use Rattle.elan_plain.proofs.level.Level.+normal.Given as goal

abbrev pub decreases-normal : goal.decreases-normal
decreases-normal g l = pattern_weight l.pattern.now

abbrev pub decreases-in_turn_onto : goal.decreases-in_turn_onto
decreases-in_turn_onto g l = pattern_weights l.patterns.now
