use Rattle.std.proofs.Common.{◌≡◌, ◌++◌, length}
use Rattle.elan_table.specs.Rows.{terms}
use Rattle.elan_bags.proofs.copies.rows_onto.Given as goal

-- what is there and what is left of the rows is all
abbrev pub invariant-rows : goal.invariant-rows
invariant-rows g l = terms l.out ++ terms l.left ≡ terms l.fn.out ++ terms l.fn.rows

abbrev pub decreases-rows : goal.decreases-rows
decreases-rows g l = length l.left
