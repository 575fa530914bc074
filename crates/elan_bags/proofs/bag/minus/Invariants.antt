use Rattle.std.proofs.Common.{◌≡◌, length}
use Rattle.elan_table.specs.Rows.{terms}
use Rattle.elan_bags.proofs.MinusLemmas.{minus, front}
use Rattle.elan_bags.proofs.bag.minus.Given as goal

-- what was left so far and what is left of the others is what is left of all
abbrev pub invariant-rows : goal.invariant-rows
invariant-rows g l = front (terms l.out) (minus (terms l.left) (terms l.gone)) ≡ minus (terms l.fn.rows) (terms l.fn.others)

abbrev pub decreases-rows : goal.decreases-rows
decreases-rows g l = length l.left
