use Rattle.elan_terms.specs.Weight.{pattern_weight, pattern_weights}
use Rattle.elan_look.proofs.sight.Sight.+given.Given as goal

abbrev pub decreases-is_given : goal.decreases-is_given
decreases-is_given g l = pattern_weight l.pattern.now

abbrev pub decreases-are_given : goal.decreases-are_given
decreases-are_given g l = pattern_weights l.patterns.now
