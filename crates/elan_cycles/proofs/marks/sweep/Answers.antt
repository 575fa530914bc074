use Rattle.std.proofs.lemmas.List.Elements.{Contains-get_or}
use Rattle.elan_cycles.specs.Edges.{edge}
use Rattle.elan_cycles.proofs.MarkLemmas.{swept-none, swept-next, below-widens}
use Rattle.elan_cycles.proofs.marks.sweep.Goals as goal

pub edges-init : goal.edges-init
edges-init c = swept-none c.args.edges.now c.args.marks.now

pub spread-marked-requires : goal.spread-marked-requires
spread-marked-requires c =
    (below-widens c.args.edges.now c.args.marks.now c.edges.marks c.requires c.edges.invariant.widens _
    (Contains-get_or c.args.edges.now c.edges.edge-index (edge 0 0) c.edges-test.true)).1

pub edges-preserved : goal.edges-preserved
edges-preserved c =
    let below = below-widens c.args.edges.now c.args.marks.now c.edges.marks c.requires c.edges.invariant.widens _
    (Contains-get_or c.args.edges.now c.edges.edge-index (edge 0 0) c.edges-test.true) in
    swept-next c.args.edges.now c.args.marks.now c.edges.marks c.spread-marked.new.marks c.edges.edge-index (edge 0 0)
    c.edges.marked c.spread-marked.result c.edges-test.true c.edges.invariant below.1 c.spread-marked.ensures.marked
    c.spread-marked.ensures.marks
