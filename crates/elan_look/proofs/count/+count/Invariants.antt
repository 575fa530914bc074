use Rattle.elan_terms.specs.Weight.{pattern_weight, pattern_weights}
use Rattle.elan_look.proofs.count.+count.Given as goal

abbrev pub decreases-count_one : goal.decreases-count_one
decreases-count_one g l = pattern_weight l.pattern.now

abbrev pub decreases-count_all : goal.decreases-count_all
decreases-count_all g l = pattern_weights l.patterns.now
