use Rattle.elan_terms.specs.Weight.{pattern_weight, pattern_weights}
use Rattle.elan_terms.proofs.copies.+copy_pattern.Given as goal

abbrev pub decreases-copy_pattern : goal.decreases-copy_pattern
decreases-copy_pattern l = pattern_weight l.pattern.now

abbrev pub decreases-copy_patterns_onto : goal.decreases-copy_patterns_onto
decreases-copy_patterns_onto l = pattern_weights l.patterns.now
