use Rattle.std.proofs.Common.{◌+◌, ◌*◌}
use Rattle.elan_terms.specs.Weight.{pattern_weight, pattern_weights}
use Rattle.elan_fits.proofs.look.Prefix.+look.Given as goal

abbrev pub decreases-look : goal.decreases-look
decreases-look l = 5 * pattern_weight l.pattern.now

abbrev pub decreases-look_in : goal.decreases-look_in
decreases-look_in l = 5 * pattern_weights l.patterns.now + 4

abbrev pub decreases-look_each : goal.decreases-look_each
decreases-look_each l = 5 * pattern_weights l.patterns.now + 3

abbrev pub decreases-look_sum : goal.decreases-look_sum
decreases-look_sum l = 5 * pattern_weights l.patterns.now + 3

abbrev pub decreases-look_loose : goal.decreases-look_loose
decreases-look_loose l = 5 * (pattern_weight l.loose.now + pattern_weights l.patterns.now) + 3

abbrev pub decreases-look_last : goal.decreases-look_last
decreases-look_last l = 5 * pattern_weight l.loose.now + 2

abbrev pub decreases-look_one : goal.decreases-look_one
decreases-look_one l = 5 * pattern_weight l.loose.now + 1
