use Rattle.elan_cycles.proofs.MarkLemmas.{widens-refl, widens-trans}
use Rattle.elan_cycles.proofs.marks.settle.Goals as goal

pub sweeps-init : goal.sweeps-init
sweeps-init c = widens-refl c.args.edges.now c.args.marks.now

pub sweeps-preserved : goal.sweeps-preserved
sweeps-preserved c = widens-trans c.args.edges.now _ _ _ c.sweeps.invariant c.sweep.ensures.widens

pub returns-clause-widens : goal.returns-clause-widens
returns-clause-widens c = widens-trans c.args.edges.now _ _ _ c.sweeps.invariant c.sweep.ensures.widens
