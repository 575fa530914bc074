use Rattle.elan_modules.specs.Loads.{begun_with}
use Rattle.elan_modules.proofs.NamedLemmas.{own_origin}
use Rattle.elan_modules.proofs.WalkLemmas.{walks_ended}
use Rattle.elan_modules.proofs.BeginLemmas.{stays_hungry}
use Rattle.elan_modules.proofs.VisitLemmas.{err_is}
use Rattle.elan_modules.proofs.EntryLemmas.{walks_error, begins_new}
use Rattle.elan_modules.proofs.begin.begin_loaded.Goals as goal

pub returns-in_err-text-clause-walks : goal.returns-in_err-text-clause-walks
returns-in_err-text-clause-walks g c =
    let first = rw c.in_err-text.was at c.load.ensures.walks in
    rw (err_is _ _ c.from_residual.ensures.1) (walks_ended _ _ _ _ _ _ _ first)

pub returns-in_err-opening-clause-walks : goal.returns-in_err-opening-clause-walks
returns-in_err-opening-clause-walks g c =
    let first = rw c.in_ok-text.was at c.load.ensures.walks in
    let stays = rw c.in_err-opening.was at c.begin_new.ensures.stays in
    rw (err_is _ _ c.from_residual-in_err-opening.ensures.1)
    (walks_error _ _ _ _ _ _ _ (begins_new _ _ _ _ _ _ _ first stays))

pub returns-in_err-add_text-clause-walks : goal.returns-in_err-add_text-clause-walks
returns-in_err-add_text-clause-walks g c =
    let first = rw c.in_ok-text.was at c.load.ensures.walks in
    rw (err_is _ _ c.from_residual-in_err-add_text.ensures.1)
    (walks_error _ _ _ _ (begun_with c.args.walk.now) _ _
    (begins_new _ _ _ _ _ (begun_with c.args.walk.now) _ first (stays_hungry _ _)))

pub returns-clause-walks : goal.returns-clause-walks
returns-clause-walks g c =
    let first = rw c.in_ok-text.was at c.load.ensures.walks in
    let stays = rw c.in_ok-opening.was at c.begin_new.ensures.stays in
    rw c.in_ok-add_text.ensures.ok (begins_new _ _ _ _ _ _ _ first stays)

pub returns-clause-origin : goal.returns-clause-origin
returns-clause-origin g c = rw (c.in_ok-opening.ensures.origin, c.in_ok-add_text.ensures.ok)
    (own_origin _ _ _ c.in_ok-text.ensures.one c.in_ok-text.ensures.own)
