use Rattle.elan_terms.specs.Weight.{pattern_weight, pattern_weights}
use Rattle.elan_fits.proofs.look.Prefix.+fixed.Given as goal

abbrev pub decreases-is_fixed : goal.decreases-is_fixed
decreases-is_fixed l = pattern_weight l.pattern.now

abbrev pub decreases-are_fixed : goal.decreases-are_fixed
decreases-are_fixed l = pattern_weights l.patterns.now
