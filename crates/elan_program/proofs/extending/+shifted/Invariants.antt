use Rattle.elan_terms.specs.Weight.{pattern_weight, pattern_weights}
use Rattle.elan_program.proofs.extending.+shifted.Given as goal

abbrev pub decreases-shifted : goal.decreases-shifted
decreases-shifted l = pattern_weight l.pattern.now

abbrev pub decreases-shifted_onto : goal.decreases-shifted_onto
decreases-shifted_onto l = pattern_weights l.patterns.now
