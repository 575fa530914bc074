use Rattle.std.proofs.Common.{◌≡◌, ◌<◌, ◌++◌, length}
use Rattle.elan_table.specs.Rows.{terms}
use Rattle.elan_bags.proofs.OverLemmas.{shared, over}
use Rattle.elan_bags.proofs.bag.over.Given as goal

-- the shares so far and those of what is left are all, and the last row was not passed often enough for one more
abbrev pub invariant-rows : goal.invariant-rows
invariant-rows g l = record {
  all : terms l.out ++ shared l.many l.last.value l.seen (terms l.left) ≡ over l.many (terms l.fn.rows);
  few : l.seen < l.many;
}

abbrev pub decreases-rows : goal.decreases-rows
decreases-rows g l = length l.left
