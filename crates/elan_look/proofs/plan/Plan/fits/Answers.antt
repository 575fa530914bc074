use Rattle.std.proofs.Common.{refl}
use Rattle.elan_look.proofs.PlanLemmas.{fits-sorted, fits-whole}
use Rattle.elan_look.proofs.plan.Plan.fits.Goals as goal

pub returns-then-not-have_sorts : goal.returns-then-not-have_sorts
returns-then-not-have_sorts g c = fits-sorted g.N.Name.shapes c.args.self.now c.requires.plan c.known.ensures c.args.done.now _ refl c.as_slice.result.now c.have_sorts.result c.as_slice.ensures c.all_known.ensures c.requires.all c.have_sorts.ensures c.if-not-have_sorts.true

pub returns : goal.returns
returns g c = fits-whole g.N.Name.shapes c.args.self.now c.requires.plan c.known.ensures c.args.done.now c.in_ok-there.field-0 (c.in_ok-there.ensures {u = tt}) c.as_slice.result.now c.in_ok-low.low c.is_empty.result c.as_slice.ensures c.all_known.ensures c.requires.all (c.have_sorts.ensures.0 c.if-not-have_sorts.false)
    c.in_ok-low.ensures.tells c.is_empty.ensures
