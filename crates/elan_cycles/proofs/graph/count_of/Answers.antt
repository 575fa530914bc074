use Rattle.std.proofs.Common.{◌<◌, ◌≤◌, slice_index_or, arith}
use Rattle.elan_cycles.specs.Edges.{edge}
use Rattle.elan_cycles.proofs.MarkLemmas.{counted-next, counted-all}
use Rattle.elan_cycles.proofs.graph.count_of.Goals as goal

pub edges-preserved : goal.edges-preserved
edges-preserved c =
    let at = slice_index_or c.args.edges.now c.edges.edge-index (edge 0 0) in
    let grows : c.edges.count ≤ c.max-count.result = omega (arith, c.max.ensures, c.max-count.ensures) in
    let from : at.from < c.max-count.result = omega (arith, c.max.ensures, c.max-count.ensures) in
    let to : at.to < c.max-count.result = omega (arith, c.max-count.ensures) in
    counted-next c.args.edges.now c.edges.edge-index (edge 0 0) c.edges.count c.max-count.result c.edges-test.true
    c.edges.invariant grows from to

pub returns : goal.returns
returns c =
    counted-all c.args.edges.now c.edges.edge-index c.edges.count c.edges-test.false c.edges.invariant
