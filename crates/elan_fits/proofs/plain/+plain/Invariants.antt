use Rattle.elan_terms.specs.Weight.{pattern_weight, pattern_weights}
use Rattle.elan_fits.proofs.plain.+plain.Given as goal

abbrev pub decreases-is_plain : goal.decreases-is_plain
decreases-is_plain l = pattern_weight l.pattern.now

abbrev pub decreases-are_plain : goal.decreases-are_plain
decreases-are_plain l = pattern_weights l.patterns.now
