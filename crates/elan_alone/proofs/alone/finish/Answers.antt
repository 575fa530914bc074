use Rattle.elan_alone.proofs.Finished.{finished, finished_kin}
use Rattle.elan_alone.proofs.alone.finish.Goals as goal

pub returns-then-is_over-clause-first : goal.returns-then-is_over-clause-first
returns-then-is_over-clause-first g c =
    finished g.B.Branch.sense c.args.tree c.loop.tree c.into_items.result.items c.is_over-sound.ensures.sound c.is_over.ensures.sound c.loop.invariant.0 c.loop.invariant.1
    (c.is_over.ensures.over.0 c.if-is_over.true) c.into_items.ensures.value

pub returns-then-is_over-clause-kin : goal.returns-then-is_over-clause-kin
returns-then-is_over-clause-kin g c = finished_kin g.B.Branch.sense c.args.tree c.loop.tree c.into_items.result.items c.loop.invariant.0 c.into_items.ensures.kin
