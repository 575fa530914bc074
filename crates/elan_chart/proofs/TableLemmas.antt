-- A row of a table that is taken out, made longer and put back; and the next cut of a run.
use Rattle.std.proofs.Common.{◌≡◌, refl, sym, ap, ◌∙◌, ℕ, zero, suc, ◌-◌, ◌<◌, ◌≤◌, Option, List, [], ◌∷◌, ◌++◌, length, take, drop, get_or, slice_get, slice_set, arith}
use Rattle.std.proofs.lemmas.List.{take_all}
use Rattle.elan_terms.specs.declared.tree.OpId.{OpId}
use Rattle.elan_reading.specs.declared.lexeme.Lexeme.{Lexeme}
use Rattle.elan_entries.specs.declared.found.Entry.{Entry}
use Rattle.elan_entries.specs.Found.{put_all}
use Rattle.elan_chart.specs.Chart.{Scope, added, cut_at, cuts}
use Rattle.elan_entries.proofs.PutLemmas.{put_all_append}

pub added_set : (table : List (List OpId)) (at : ℕ) (op : OpId) (row new blank d : List OpId) → at < length table → row ≡ get_or table at d
    → new ≡ row ++ op ∷ [] → slice_set (slice_set table at blank) at new ≡ added table at op
added_set [] at op row new blank d less is e = absurd (omega arith)
added_set (r ∷ rs) zero op row new blank d less is e = ap (λ x. x ∷ rs) (e ∙ ap (λ x. x ++ op ∷ []) is)
added_set (r ∷ rs) (suc at) op row new blank d less is e = ap (λ x. r ∷ x) (added_set rs at op row new blank d (omega arith) is e)

pub added_past : (table : List (List OpId)) (at : ℕ) (op : OpId) → length table ≤ at → table ≡ added table at op
added_past [] at op le = refl
added_past (r ∷ rs) zero op le = absurd (omega arith)
added_past (r ∷ rs) (suc at) op le = ap (λ x. r ∷ x) (added_past rs at op (omega arith))

cuts_next : (w : Scope) (before : Option Lexeme) (front : List Entry) (fronts : List (List Entry)) (rests : List (List Entry))
    (others : List (List (List Entry))) (run mid next : List Entry) → mid ≡ put_all run (cut_at w before front (slice_get rests (length fronts)))
    → next ≡ put_all mid (cuts w before fronts others) → next ≡ put_all run (cuts w before (front ∷ fronts) (rests ∷ others))
cuts_next w before front fronts rests others run mid next e f =
    f ∙ ap (λ r. put_all r (cuts w before fronts others)) e
    ∙ sym (put_all_append run (cut_at w before front (slice_get rests (length fronts))) (cuts w before fronts others))

pub cuts_of : (w : Scope) (before : Option Lexeme) (row : List (List Entry)) (below : List (List (List Entry))) (front : List Entry)
    (rests : List (List Entry)) (run mid next : List Entry) → 1 ≤ length row → 1 ≤ length below → front ≡ get_or row 0 front → rests ≡ get_or below 0 rests
    → mid ≡ put_all run (cut_at w before front (slice_get rests (length (take (length row - 1) (drop 1 row)))))
    → next ≡ put_all mid (cuts w before (take (length row - 1) (drop 1 row)) (take (length below - 1) (drop 1 below)))
    → next ≡ put_all run (cuts w before row below)
cuts_of w before [] below front rests run mid next a b p q e f = absurd (omega arith)
cuts_of w before (x ∷ xs) [] front rests run mid next a b p q e f = absurd (omega arith)
cuts_of w before (x ∷ xs) (y ∷ ys) front rests run mid next a b p q e f =
    let later : take (length (x ∷ xs) - 1) xs ≡ xs = take_all (length (x ∷ xs) - 1) xs (omega arith) in
    let deeper : take (length (y ∷ ys) - 1) ys ≡ ys = take_all (length (y ∷ ys) - 1) ys (omega arith) in
    cuts_next w before x xs y ys run mid next
    (e ∙ ap (λ n. put_all run (cut_at w before front (slice_get rests (length n)))) later
    ∙ ap (λ n. put_all run (cut_at w before n (slice_get rests (length xs)))) p ∙ ap (λ n. put_all run (cut_at w before x (slice_get n (length xs)))) q)
    (f ∙ ap (λ n. put_all mid (cuts w before n (take (length (y ∷ ys) - 1) ys))) later ∙ ap (λ n. put_all mid (cuts w before xs n)) deeper)
