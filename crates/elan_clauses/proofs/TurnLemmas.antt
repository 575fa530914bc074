-- Lists from their ends.
use Rattle.std.proofs.Common.{◌≡◌, ap, sym, ◌∙◌, ℕ, ◌+◌, List, [], ◌∷◌, ◌++◌, map, reverse, length, length-append, arith}
use Rattle.std.proofs.lemmas.List.{map-append, reverse-append, reverse-reverse}

module _ {A : Type 0} where
  -- a list whose last item is taken
  pub turn_step : (xs ys : List A) (y : A) → xs ≡ ys ++ y ∷ [] → reverse xs ≡ y ∷ reverse ys
  turn_step xs ys y e = ap reverse e ∙ reverse-append ys (y ∷ [])

  pub back_step : {B : Type 0} (f : A → B) (xs ys : List A) (y : A) → xs ≡ ys ++ y ∷ [] → reverse (map f xs) ≡ f y ∷ reverse (map f ys)
  back_step f xs ys y e = ap (λ zs. reverse (map f zs)) e ∙ ap reverse (map-append f ys (y ∷ [])) ∙ reverse-append (map f ys) (f y ∷ [])

  -- twice turned is as it was
  pub turned_twice : (xs ys zs : List A) → ys ≡ reverse xs → zs ≡ reverse ys → zs ≡ xs
  turned_twice xs ys zs e f = f ∙ ap reverse e ∙ reverse-reverse xs
