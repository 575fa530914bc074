use Rattle.elan_cycles.proofs.MarkLemmas.{widens-refl, widens-trans}
use Rattle.elan_cycles.proofs.reach.walk.Goals as goal

pub nodes-init : goal.nodes-init
nodes-init c = widens-refl c.args.edges.now c.args.marks.now

pub nodes-preserved : goal.nodes-preserved
nodes-preserved c = widens-trans c.args.edges.now _ _ _ c.nodes.invariant c.in_ok-visit.ensures
