-- A slice by its first item and the others.
use Rattle.std.proofs.Common.{◌≡◌, refl, sym, ap, ◌∙◌, ◌-◌, ◌<◌, ◌≤◌, List, [], ◌∷◌, length, take, drop, get_or, take_all, arith}

-- the items after the first
abbrev pub others : {X : Type 0} → List X → List X
others xs = take (length xs - 1) (drop 1 xs)

pub begins : {X : Type 0} (xs : List X) (x : X) → 1 ≤ length xs → x ≡ get_or xs 0 x → xs ≡ x ∷ others xs
begins [] x le e = absurd (omega arith)
begins (y ∷ xs) x le e = let few : length xs ≤ length (y ∷ xs) - 1 = omega arith in
    ap (λ z. z ∷ xs) (sym e) ∙ ap (λ zs. x ∷ zs) (sym (take_all (length (y ∷ xs) - 1) xs few))

pub is_empty : {X : Type 0} (xs : List X) → length xs < 1 → xs ≡ []
is_empty [] le = refl
is_empty (x ∷ xs) le = absurd (omega arith)
