use Rattle.std.proofs.Common.{ap, sym, ◌∙◌, length, nat_cmp}
use Rattle.std.specs.Cmp.Lexicographic.{slice_cmp}
use Rattle.elan_terms.specs.Term.{order}
use Rattle.elan_terms.proofs.TermLemmas.{order-operators, order-lengths, order-arguments}
use Rattle.elan_terms.proofs.order.+compare.Goals as goal

pub compare-returns-in-Equal-cmp : goal.compare-returns-in-Equal-cmp
compare-returns-in-Equal-cmp t c =
    order-arguments _ _ _ _ _ _ c.in-App-App.is-0 c.in-App-App.is-1 _ (sym (c.in-Equal.ensures {u = tt}))
    (ap (λ n. nat_cmp n (length c.in-App-App.ys)) (sym c.len.ensures) ∙ ap (nat_cmp c.len.result) (sym c.len-in-Equal.ensures) ∙ sym (c.in-Equal-cmp.ensures {u = tt}))
    (c.compare_all.ensures ∙ ap (λ xs. slice_cmp order xs c.as_slice-in-Equal-cmp.result.now) c.as_slice.ensures ∙ ap (slice_cmp order c.in-App-App.xs) c.as_slice-in-Equal-cmp.ensures)

pub compare-returns-in_default-cmp : goal.compare-returns-in_default-cmp
compare-returns-in_default-cmp t c =
    order-lengths _ _ _ _ _ _ c.in-App-App.is-0 c.in-App-App.is-1 _ (sym (c.in-Equal.ensures {u = tt}))
    (c.cmp-in-Equal.ensures ∙ ap (λ n. nat_cmp n c.len-in-Equal.result) c.len.ensures ∙ ap (nat_cmp (length c.in-App-App.xs)) c.len-in-Equal.ensures)
    c.in_default-cmp.not-Equal

pub compare-returns-in_default : goal.compare-returns-in_default
compare-returns-in_default t c = order-operators _ _ _ _ _ _ c.in-App-App.is-0 c.in-App-App.is-1 _ c.cmp-in-App-App.ensures c.in_default.not-Equal
