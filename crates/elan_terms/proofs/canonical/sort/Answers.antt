use Rattle.std.proofs.Common.{rules, ◌≡◌, ap, is_lt, Result, Ok, Err, OnOk}
use Rattle.std.proofs.lemmas.List.Sorted.{answers_always}
use Rattle.std.proofs.lemmas.List.MinMax.{ranks_by}
use Rattle.elan_terms.specs.Term.{order}
use Rattle.elan_terms.proofs.OrderLaws.{order_total}
use Rattle.elan_terms.proofs.SortLemmas.{earlier, sorted_ascending}
use Rattle.elan_terms.proofs.canonical.sort.Goals as goal

on_ok : {X E : Type 0} (r : Result X E) {P Q : Type 0} → (P → Q) → OnOk r P → OnOk r Q
on_ok (Ok x) f h = f h
on_ok (Err e) f h = h

pub returns : goal.returns
returns c = on_ok c.sort_by.result (λ s. sorted_ascending _ _ c.sort_by.ensures.permutation (s earlier (ranks_by order_total (λ t. t))
    (answers_always _ _ _ (λ f a r f' k. let said : r ≡ order a.0.now a.1.0.now = search rules in ap is_lt said)))) c.sort_by.ensures.sorted
