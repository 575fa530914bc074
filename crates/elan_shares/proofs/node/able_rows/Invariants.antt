use Rattle.std.proofs.Common.{length}
use Rattle.elan_table.specs.Rows.{terms}
use Rattle.elan_shares.specs.Nodes.{MayStandUnder}
use Rattle.elan_shares.proofs.NodeLemmas.{KeepsOn}
use Rattle.elan_shares.proofs.node.able_rows.Given as goal

-- the rows so far and those that are kept of what is left are those that are kept of all
abbrev pub invariant-rows : goal.invariant-rows
invariant-rows g l = KeepsOn (MayStandUnder g.N.Name.shapes l.op) (terms l.out) (terms l.left) (terms l.fn.rows)

abbrev pub decreases-rows : goal.decreases-rows
decreases-rows g l = length l.left
