use Rattle.std.proofs.Common.{◌≡◌, length}
use Rattle.elan_table.specs.Rows.{terms}
use Rattle.elan_bags.specs.Cuts.{since}
use Rattle.elan_bags.proofs.cut.since.Given as goal

-- those that are left have the same since the row
abbrev pub invariant-others : goal.invariant-others
invariant-others g l = since l.row.value (terms l.left) ≡ since l.row.value (terms l.fn.others)

abbrev pub decreases-others : goal.decreases-others
decreases-others g l = length l.left
