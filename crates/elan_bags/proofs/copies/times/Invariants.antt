use Rattle.std.proofs.Common.{◌≡◌, ◌++◌, length}
use Rattle.elan_table.specs.Rows.{terms}
use Rattle.elan_bags.proofs.ManyLemmas.{many_times}
use Rattle.elan_bags.proofs.copies.times.Given as goal

-- the rows so far and those that are left, each so many times, are all
abbrev pub invariant-rows : goal.invariant-rows
invariant-rows g l = terms l.out ++ many_times l.many (terms l.left) ≡ many_times l.many (terms l.fn.rows)

abbrev pub decreases-rows : goal.decreases-rows
decreases-rows g l = length l.left
