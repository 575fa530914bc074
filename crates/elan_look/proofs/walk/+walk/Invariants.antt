use Rattle.std.proofs.Common.{◌*◌, ◌+◌, length}
use Rattle.elan_terms.specs.Weight.{pattern_weight, pattern_weights}
use Rattle.elan_table.specs.Rows.{terms}
use Rattle.elan_look.specs.Sights.{seeks}
use Rattle.elan_look.specs.Tells.{SaysIf}
use Rattle.elan_look.proofs.NodeLemmas.{Passes, Covers}
use Rattle.elan_look.proofs.walk.+walk.Given as goal

abbrev pub decreases-look_at : goal.decreases-look_at
decreases-look_at g l = 4 * pattern_weight l.pattern.now

abbrev pub decreases-look_each : goal.decreases-look_each
decreases-look_each g l = 4 * pattern_weights l.patterns.now

abbrev pub decreases-find : goal.decreases-find
decreases-find g l = 4 * pattern_weight l.pattern.now + 1

abbrev pub decreases-take_ground : goal.decreases-take_ground
decreases-take_ground g l = 4 * pattern_weight l.pattern.now + 2

abbrev pub decreases-take_pattern : goal.decreases-take_pattern
decreases-take_pattern g l = 4 * pattern_weight l.pattern.now + 3

abbrev pub decreases-take_all : goal.decreases-take_all
decreases-take_all g l = 4 * pattern_weights l.patterns.now

abbrev pub decreases-look_among : goal.decreases-look_among
decreases-look_among g l = 4 * pattern_weight l.pattern.now + 1

abbrev pub decreases-look_inside : goal.decreases-look_inside
decreases-look_inside g l = 4 * pattern_weight l.pattern.now + 2

abbrev pub decreases-look_inside_all : goal.decreases-look_inside_all
decreases-look_inside_all g l = 4 * pattern_weights l.patterns.now

abbrev pub decreases-look_left : goal.decreases-look_left
decreases-look_left g l = 4 * pattern_weights l.patterns.now + 1

abbrev pub decreases-look_under : goal.decreases-look_under
decreases-look_under g l = 4 * pattern_weights l.patterns.now + 2

-- the pattern is none of the rows that were passed
abbrev pub invariant-find-rows : goal.invariant-find-rows
invariant-find-rows g l = Passes g.N.Name.shapes l.sight l.pattern (terms l.fn.rows) (terms l.left)

abbrev pub decreases-find-rows : goal.decreases-find-rows
decreases-find-rows g l = length l.left

-- the bound covers the rows that were passed, and says something where the sought variable stands in the pattern
abbrev pub invariant-look_among-rows : goal.invariant-look_among-rows
invariant-look_among-rows g l = record {
  covers : Covers g.N.Name.shapes l.sight l.pattern (terms l.fn.rows) (terms l.left) l.low;
  says : SaysIf (seeks l.sight l.pattern) l.low;
}

abbrev pub decreases-look_among-rows : goal.decreases-look_among-rows
decreases-look_among-rows g l = length l.left
