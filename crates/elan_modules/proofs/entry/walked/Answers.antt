use Rattle.std.proofs.Common.{refl, sym, ◌∙◌}
use Rattle.elan_modules.proofs.VisitLemmas.{err_is}
use Rattle.elan_modules.proofs.EntryLemmas.{hungry_still, walks_error, walks_given, walks_twice, walks_once}
use Rattle.elan_modules.proofs.entry.walked.Goals as goal

pub returns-in-Some-clause-walks : goal.returns-in-Some-clause-walks
returns-in-Some-clause-walks g c = walks_twice c.args.stream c.args.lpl.now _ _ _ (sym c.in_ok-twice.ensures ∙ c.in-Some.is)

pub returns-in_err-twice-clause-walks : goal.returns-in_err-twice-clause-walks
returns-in_err-twice-clause-walks g c = rw (err_is _ _ c.from_residual.ensures.1) (hungry_still _ _ _ _)

pub returns-in_err-imports-clause-walks : goal.returns-in_err-imports-clause-walks
returns-in_err-imports-clause-walks g c = rw (err_is _ _ c.from_residual-in_err-imports.ensures.1) (hungry_still _ _ _ _)

pub returns-in_err-walk-clause-walks : goal.returns-in_err-walk-clause-walks
returns-in_err-walk-clause-walks g c = rw (err_is _ _ c.from_residual-in_err-walk.ensures.1) (hungry_still _ _ _ _)

pub returns-in-Ok-clause-walks : goal.returns-in-Ok-clause-walks
returns-in-Ok-clause-walks g c =
    let walks = rw (c.in-Ok.is, c.in_ok-walk.ensures, c.as_slice.ensures, c.in_ok-imports.ensures) at c.visit_all.ensures.walks in
    walks_once c.args.stream c.args.lpl.now _ _ _ _ (sym c.in_ok-twice.ensures ∙ c.in_default.is)
    (walks_given _ _ _ _ walks)

pub returns-clause-walks : goal.returns-clause-walks
returns-clause-walks g c =
    let walks = rw (c.in-Err.is, c.in_ok-walk.ensures, c.as_slice.ensures, c.in_ok-imports.ensures) at c.visit_all.ensures.walks in
    walks_once c.args.stream c.args.lpl.now _ _ _ _ (sym c.in_ok-twice.ensures ∙ c.in_default.is)
    (walks_error _ _ _ _ _ _ _ walks)

pub returns-in-Ok-clause-first : goal.returns-in-Ok-clause-first
returns-in-Ok-clause-first g c = c.visit_all.ensures.kept 0 c.args.stream (rw c.in_ok-walk.ensures refl)
