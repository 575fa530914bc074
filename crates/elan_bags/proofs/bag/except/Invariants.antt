use Rattle.std.proofs.Common.{◌≡◌, ◌++◌, length}
use Rattle.elan_table.specs.Rows.{terms}
use Rattle.elan_bags.proofs.ExceptLemmas.{except}
use Rattle.elan_bags.proofs.bag.except.Given as goal

-- what was left so far and what will be left is what is left of all
abbrev pub invariant-rows : goal.invariant-rows
invariant-rows g l = terms l.out ++ except (terms l.left) (terms l.gone) ≡ except (terms l.fn.rows) (terms l.fn.others)

abbrev pub decreases-rows : goal.decreases-rows
decreases-rows g l = length l.left
