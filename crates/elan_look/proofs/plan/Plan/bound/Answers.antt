use Rattle.std.proofs.Common.{refl}
use Rattle.elan_look.proofs.PlanLemmas as plans
use Rattle.elan_look.proofs.plan.Plan.bound.Goals as goal

pub returns-in-Empty : goal.returns-in-Empty
returns-in-Empty g c = plans.bounds-none g.N.Name.shapes c.args.self.now c.requires.plan c.known.ensures c.args.done.now c.in_ok-there.field-0 (c.in_ok-there.ensures {u = tt}) c.as_slice.result.now _ _ c.again.result _ c.in_ok-look_at.field-0 c.as_slice.ensures refl c.again.ensures c.requires.more c.in_ok-look_at.ensures.tells c.in-Empty.is

pub returns-in-At : goal.returns-in-At
returns-in-At g c = plans.bounds-row g.N.Name.shapes c.args.self.now c.requires.plan c.known.ensures c.args.done.now c.in_ok-there.field-0 (c.in_ok-there.ensures {u = tt}) c.as_slice.result.now _ _ c.again.result _ c.in_ok-look_at.field-0 c.as_slice.ensures refl c.again.ensures c.requires.more c.in_ok-look_at.ensures.tells c.in-At.row c.in-At.is

pub unreachable-requires : goal.unreachable-requires
unreachable-requires g c = plans.bounds-any g.N.Name.shapes c.args.self.now c.requires.plan c.known.ensures c.args.done.now c.in_ok-there.field-0 (c.in_ok-there.ensures {u = tt}) c.as_slice.result.now _ _ c.again.result _ c.in_ok-look_at.field-0 c.as_slice.ensures refl c.again.ensures c.requires.more c.in_ok-look_at.ensures.tells c.in_ok-look_at.ensures.says c.in-Any.is
