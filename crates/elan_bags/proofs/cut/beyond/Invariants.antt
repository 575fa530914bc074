use Rattle.std.proofs.Common.{◌≡◌, length}
use Rattle.elan_table.specs.Rows.{terms}
use Rattle.elan_bags.specs.Cuts.{beyond}
use Rattle.elan_bags.proofs.cut.beyond.Given as goal

-- those that are left have the same beyond the row
abbrev pub invariant-others : goal.invariant-others
invariant-others g l = beyond l.row.value (terms l.left) ≡ beyond l.row.value (terms l.fn.others)

abbrev pub decreases-others : goal.decreases-others
decreases-others g l = length l.left
