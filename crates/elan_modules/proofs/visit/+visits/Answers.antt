use Rattle.std.proofs.Common.{sym, ◌∙◌, length}
use Rattle.std.proofs.lemmas.List.{take_rest}
use Rattle.elan_modules.specs.Loads.{become}
use Rattle.elan_modules.proofs.WalkLemmas.{walks_then, walks_ended}
use Rattle.elan_modules.proofs.VisitLemmas.{visits_none_at, err_is, one_less, completes_ended, completes_finished, completes_hungry, visits_on, visits_done, visits_full, visits_begun, visits_next_at, visits_ended_at}
use Rattle.elan_modules.proofs.EntryLemmas.{hungry_still, walks_error}
use Rattle.elan_modules.proofs.visit.+visits.Goals as goal

pub complete-returns-in_err-opening-clause-walks : goal.complete-returns-in_err-opening-clause-walks
complete-returns-in_err-opening-clause-walks g t c =
    let first = rw c.in_err-opening.was at c.begin.ensures.walks in
    rw (err_is _ _ c.from_residual.ensures.1) (walks_ended _ _ _ _ _ _ _ first)

pub complete-returns-in_err-longer-clause-walks : goal.complete-returns-in_err-longer-clause-walks
complete-returns-in_err-longer-clause-walks g t c =
    let first = rw c.in_ok-opening.was at c.begin.ensures.walks in
    rw (err_is _ _ c.from_residual-in_err-longer.ensures.1)
    (walks_then _ _ _ _ _ _ _ _ _ first (hungry_still _ _ _ _))

pub complete-returns-in_err-visit_all-clause-walks : goal.complete-returns-in_err-visit_all-clause-walks
complete-returns-in_err-visit_all-clause-walks g t c =
    let first = rw c.in_ok-opening.was at c.begin.ensures.walks in
    let second = rw c.in_err-visit_all.was at c.visit_all.ensures.walks in
    rw (err_is _ _ c.from_residual-in_err-visit_all.ensures.1)
    (completes_ended _ _ _ _ _ _ _ _ _ _ first (c.as_slice.ensures ∙ c.in_ok-longer.ensures) c.as_slice-2.ensures _ _ _ second)

pub complete-returns-in_err-finish-clause-walks : goal.complete-returns-in_err-finish-clause-walks
complete-returns-in_err-finish-clause-walks g t c =
    let first = rw c.in_ok-opening.was at c.begin.ensures.walks in
    let second = rw c.in_ok-visit_all.was at c.visit_all.ensures.walks in
    rw (err_is _ _ c.from_residual-in_err-finish.ensures.1)
    (walks_error _ _ _ _ _ _ _
    (completes_hungry _ _ _ _ _ _ _ _ _ _ first (c.as_slice.ensures ∙ c.in_ok-longer.ensures) c.as_slice-2.ensures _ second (become c.args.walk.now)))

pub complete-returns-clause-walks : goal.complete-returns-clause-walks
complete-returns-clause-walks g t c =
    let first = rw c.in_ok-opening.was at c.begin.ensures.walks in
    let second = rw c.in_ok-visit_all.was at c.visit_all.ensures.walks in
    rw c.in_ok-finish.ensures.ok
    (completes_finished _ _ _ _ _ _ _ _ _ _ first (c.as_slice.ensures ∙ c.in_ok-longer.ensures) c.as_slice-2.ensures _ second)

pub visit-returns-then-is_on-clause-walks : goal.visit-returns-then-is_on-clause-walks
visit-returns-then-is_on-clause-walks g t c =
    visits_on c.args.path.now c.args.walk.now c.args.reference.now _ _ _ (sym c.is_on.ensures ∙ c.if-is_on.true) c.refused_at.ensures

pub visit-returns-in_err-done-clause-walks : goal.visit-returns-in_err-done-clause-walks
visit-returns-in_err-done-clause-walks g t c = rw (err_is _ _ c.from_residual.ensures.1) (hungry_still _ _ _ _)

pub visit-returns-then-done-clause-walks : goal.visit-returns-then-done-clause-walks
visit-returns-then-done-clause-walks g t c =
    let done = sym c.in_ok-done.ensures ∙ c.if-done.true in
    visits_done c.args.path.now c.args.walk.now c.args.reference.now _ _ (sym c.is_on.ensures ∙ c.if-is_on.false) done

pub visit-returns-then-is_full-clause-walks : goal.visit-returns-then-is_full-clause-walks
visit-returns-then-is_full-clause-walks g t c =
    let new = sym c.in_ok-done.ensures ∙ c.if-done.false in
    let full = rw c.finished.ensures at (sym c.is_full.ensures ∙ c.if-is_full.true) in
    visits_full c.args.path.now c.args.walk.now c.args.reference.now _ _ _ (sym c.is_on.ensures ∙ c.if-is_on.false) new full
    c.refused_at-then-is_full.ensures

pub visit-returns-clause-walks : goal.visit-returns-clause-walks
visit-returns-clause-walks g t c =
    let new = sym c.in_ok-done.ensures ∙ c.if-done.false in
    let room = rw c.finished.ensures at (sym c.is_full.ensures ∙ c.if-is_full.false) in
    visits_begun c.args.path.now c.args.walk.now c.args.reference.now _ _ _ _ _ _
    (one_less (length c.args.path.now) (length c.args.walk.now.done) room) (sym c.is_on.ensures ∙ c.if-is_on.false) new room
    c.complete.ensures.walks

pub visit_all-returns-in_err-visit-clause-walks : goal.visit_all-returns-in_err-visit-clause-walks
visit_all-returns-in_err-visit-clause-walks g t c =
    let one = rw c.in_err-visit.was at c.visit.ensures.walks in
    rw (err_is _ _ c.from_residual.ensures.1)
    (c.references.invariant.whole _ _ _
    (visits_ended_at _ _ _ _ _ _ _ _ _ _ c.first-item.is c.in-len1-up.len_at_least one))

pub visit_all-references-preserved : goal.visit_all-references-preserved
visit_all-references-preserved g t c =
    let one = rw c.in_ok-visit.was at c.visit.ensures.walks in
    record {
      whole = λ u view result others. c.references.invariant.whole u view result
          (visits_next_at _ _ _ _ _ _ _ _ _ _ _ _ c.first-item.is c.in-len1-up.len_at_least (take_rest _ 1) one others);
      kept = λ number text is. c.visit.ensures.kept number text (c.references.invariant.kept number text is);
    }

pub visit_all-returns-clause-walks : goal.visit_all-returns-clause-walks
visit_all-returns-clause-walks g t c = c.references.invariant.whole _ _ _ (visits_none_at _ _ _ _ _ c.in_default.len_below)
