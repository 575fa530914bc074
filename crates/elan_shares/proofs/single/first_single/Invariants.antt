use Rattle.std.proofs.Common.{length}
use Rattle.std.specs.Option.{option_copied}
use Rattle.elan_table.specs.Rows.{terms}
use Rattle.elan_shares.proofs.SingleLemmas.{Passed}
use Rattle.elan_shares.proofs.single.first_single.Given as goal

-- the rows that were passed do not suit
abbrev pub invariant-rows : goal.invariant-rows
invariant-rows g l = Passed g.N.Name.shapes l.op l.sort (option_copied l.floor) (terms l.fn.rows) (terms l.left)

abbrev pub decreases-rows : goal.decreases-rows
decreases-rows g l = length l.left
