use Rattle.std.proofs.Common.{sym}
use Rattle.elan_cycles.proofs.Elements.{contains-at}
use Rattle.elan_cycles.proofs.MarkLemmas.{widens-refl, widens-trans, widens-pass, below-widens}
use Rattle.elan_cycles.proofs.reach.visit.Goals as goal

pub edges-init : goal.edges-init
edges-init c = widens-refl c.args.edges.now c.args.marks.now

pub pass-requires : goal.pass-requires
pass-requires c =
    (below-widens c.args.edges.now _ _ c.requires c.edges.invariant c.in-Some.edge.now
    (contains-at c.args.edges.now _ c.in-Some.edge.now (sym c.in-Some.ensures))).1

pub edges-preserved : goal.edges-preserved
edges-preserved c =
    let there = contains-at c.args.edges.now _ c.in-Some.edge.now (sym c.in-Some.ensures) in
    let below = (below-widens c.args.edges.now _ _ c.requires c.edges.invariant c.in-Some.edge.now there).1 in
    widens-trans c.args.edges.now _ _ _ c.edges.invariant
    (widens-pass c.args.edges.now _ _ c.in-Some.edge.now _ there below c.pass.ensures.open c.pass.ensures.marks)
