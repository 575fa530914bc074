use Rattle.std.proofs.Common.{◌≡◌, length}
use Rattle.elan_laws.specs.Parts.{times}
use Rattle.elan_table.specs.Rows.{terms}
use Rattle.elan_bags.proofs.bag.is_among.Given as goal

-- the row stands as often among those that are left
abbrev pub invariant-others : goal.invariant-others
invariant-others g l = times l.row.value (terms l.left) ≡ times l.row.value (terms l.fn.others)

abbrev pub decreases-others : goal.decreases-others
decreases-others g l = length l.left
