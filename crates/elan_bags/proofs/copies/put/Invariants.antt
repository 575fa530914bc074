use Rattle.std.proofs.Common.{◌≡◌, ◌++◌, length}
use Rattle.elan_terms.specs.Term.{put_in}
use Rattle.elan_table.specs.Rows.{terms}
use Rattle.elan_bags.proofs.copies.put.Given as goal

-- the rows so far, and the row put into those that are left
abbrev pub invariant-rows : goal.invariant-rows
invariant-rows g l = terms l.out ++ put_in l.row.value (terms l.left) ≡ put_in l.row.value (terms l.fn.rows)

abbrev pub decreases-rows : goal.decreases-rows
decreases-rows g l = length l.left
