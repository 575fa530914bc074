-- The bytes that were taken and the bytes that are left.
use Rattle.std.proofs.Common.{arith, ◌≡◌, ◌≤◌, ℕ, ◌+◌, List, ◌++◌, take, drop, length, Option, Some, None, sym, ◌∙◌, ap, subst}
use Rattle.std.specs.Option.{option_map}
use Rattle.std.proofs.Math.Nat.{min-le_left}
use Rattle.std.proofs.lemmas.List.{take-append-drop, drop-drop, append_assoc, length-append, length-take}
use Rattle.elan_text.specs.Streams.{Consumes, Appends}
use Rattle.elan_text.specs.Whole.{PastWithin}

-- after the next n bytes of a text that begins at a place, the text begins n bytes later
pub consumes_next : (at n : ℕ) (bytes text taken : List ℕ) → text ≡ bytes → take n taken ≡ take n (drop at text)
    → Consumes (Some (drop at bytes)) (take n taken) (Some (drop (at + n) bytes))
consumes_next at n bytes text taken is same =
    let front : take n taken ≡ take n (drop at bytes) = same ∙ ap (λ whole. take n (drop at whole)) is in
    ap Some (sym (take-append-drop n (drop at bytes)) ∙ ap (λ rest. take n (drop at bytes) ++ rest) (drop-drop n at bytes)
    ∙ ap (λ first. first ++ drop (at + n) bytes) (sym front))

-- two texts that were taken one after the other are one
pub consumes_both : (before middle after : Option (List ℕ)) (xs ys : List ℕ) → Consumes before xs middle → Consumes middle ys after → Consumes before (xs ++ ys) after
consumes_both before middle None xs ys first second = first ∙ ap (option_map (λ rest. xs ++ rest)) second
consumes_both before middle (Some rest) xs ys first second =
    first ∙ ap (option_map (λ rest. xs ++ rest)) second ∙ ap Some (sym (append_assoc xs ys rest))

-- two texts that were written one after the other are one
pub appends_both : (before middle after : Option (List ℕ)) (xs ys : List ℕ) → Appends before xs middle → Appends middle ys after → Appends before (xs ++ ys) after
appends_both None middle after xs ys first second = second ∙ ap (option_map (λ bytes. bytes ++ ys)) first
appends_both (Some bytes) middle after xs ys first second =
    second ∙ ap (option_map (λ bytes. bytes ++ ys)) first ∙ ap Some (append_assoc bytes xs ys)

-- of a piece a front is written; then so is that front with the next n bytes
pub writes_next : (before middle after : Option (List ℕ)) (piece left : List ℕ) (n : ℕ)
    → ((done : List ℕ) × (piece ≡ done ++ left) × Appends before done middle) → Appends middle (take n left) after
    → (done : List ℕ) × (piece ≡ done ++ drop n left) × Appends before done after
writes_next before middle after piece left n h next = (
  h.0 ++ take n left,
  h.1 ∙ ap (λ rest. h.0 ++ rest) (sym (take-append-drop n left)) ∙ sym (append_assoc h.0 (take n left) (drop n left)),
  appends_both before middle after h.0 (take n left) h.2 next,
)

-- of at most so many bytes and then at most so many more, no more than their sum are taken
pub taken_within : (before middle after : Option (List ℕ)) (xs ys : List ℕ) (most more : ℕ) → Consumes before xs middle → Consumes middle ys after
    → length xs ≤ most → length ys ≤ more → PastWithin (most + more) before after
taken_within before middle after xs ys most more first second few fewer =
    let long : length (xs ++ ys) ≡ length xs + length ys = length-append xs ys in
    (xs ++ ys, consumes_both before middle after xs ys first second, grind arith)

-- the first n of a list are at most n
pub first_few : {A : Type 0} (n : ℕ) (xs : List A) → length (take n xs) ≤ n
first_few n xs = subst (λ k. k ≤ n) (sym (length-take n xs)) (min-le_left n (length xs))
