-- Facts of each element and its place, as a list grows, shrinks and changes.
use Rattle.std.proofs.Common.{◌≡◌, ◌≢◌, ℕ, zero, suc, ◌<◌, List, [], ◌∷◌, ◌++◌, Option, Some, None, length, length-append, map, set, refl, ap, subst, ◌∙◌, All}
use Rattle.std.specs.List.{slice_get}
use Rattle.std.proofs.lemmas.Option.{none-some}
use Rattle.std.proofs.Math.ListN.{get_or-append}
use Rattle.std.proofs.Math.Seq.{get_or-append_seam}
use native.Mathlib.Omega.{arith}
use Rattle.elan_pool.specs.Making.{Each}

pub some_is : {A : Type 0} (x y : A) → Some x ≡ Some y → x ≡ y
some_is x y e = ap (λ (o : Option _). elim o [ None ↦ x | Some z ↦ z ]) e

pub get_left : {A : Type 0} (xs ys : List A) (i : ℕ) (x : A) → slice_get xs i ≡ Some x → slice_get (xs ++ ys) i ≡ Some x
get_left [] ys i x e = absurd (none-some x e)
get_left (z ∷ zs) ys zero x e = e
get_left (z ∷ zs) ys (suc i) x e = get_left zs ys i x e

pub get_seam : {A : Type 0} (xs : List A) (x : A) (ys : List A) → slice_get (xs ++ x ∷ ys) (length xs) ≡ Some x
get_seam [] x ys = refl
get_seam (z ∷ zs) x ys = get_seam zs x ys

pub each_rest : {A : Type 0} (F : ℕ → A → Type 0) (xs ys : List A) → Each F (xs ++ ys) → Each F xs
each_rest F xs ys each i x e = each i x (get_left xs ys i x e)

pub each_last : {A : Type 0} (F : ℕ → A → Type 0) (xs : List A) (x : A) → Each F (xs ++ x ∷ []) → F (length xs) x
each_last F xs x each = each (length xs) x (get_seam xs x [])

pub each_none : {A : Type 0} (F : ℕ → A → Type 0) → Each F []
each_none F i x e = absurd (none-some x e)

pub each_snoc : {A : Type 0} (F : ℕ → A → Type 0) (xs : List A) (x : A) → Each F xs → F (length xs) x → Each F (xs ++ x ∷ [])
each_snoc F [] x each is zero y e = subst (F 0) (some_is x y e) is
each_snoc F [] x each is (suc i) y e = absurd (none-some y e)
each_snoc F (z ∷ zs) x each is zero y e = each zero y e
each_snoc F (z ∷ zs) x each is (suc i) y e = each_snoc (λ j. F (suc j)) zs x (λ j u f. each (suc j) u f) is i y e

pub each_set : {A : Type 0} (F G : ℕ → A → Type 0) (xs : List A) (i : ℕ) (x : A) → Each F xs → ((j : ℕ) (y : A) → j ≢ i → F j y → G j y) → G i x → Each G (set xs i x)
each_set F G [] i x each others here j y e = absurd (none-some y e)
each_set F G (z ∷ zs) zero x each others here zero y e = subst (G 0) (some_is x y e) here
each_set F G (z ∷ zs) zero x each others here (suc j) y e = others (suc j) y (λ h. absurd (omega (arith, h))) (each (suc j) y e)
each_set F G (z ∷ zs) (suc i) x each others here zero y e = others zero y (λ h. absurd (omega (arith, h))) (each zero y e)
each_set F G (z ∷ zs) (suc i) x each others here (suc j) y e =
    each_set (λ k. F (suc k)) (λ k. G (suc k)) zs i x (λ k u f. each (suc k) u f) (λ k u ne h. others (suc k) u (λ s. ne (omega (arith, s))) h) here j y e

-- the place at which a mapped list has its last element
pub seam : {A D : Type 0} (f : A → D) (ds : List D) (xs : List A) (x : A) (rest : List D) → ds ≡ map f (xs ++ x ∷ []) ++ rest → slice_get ds (length xs) ≡ Some (f x)
seam f ds xs x rest e = ap (λ l. slice_get l (length xs)) e ∙ here f xs x rest
  where
    here : {A D : Type 0} (f : A → D) (xs : List A) (x : A) (rest : List D) → slice_get (map f (xs ++ x ∷ []) ++ rest) (length xs) ≡ Some (f x)
    here f [] x rest = refl
    here f (z ∷ zs) x rest = here f zs x rest

-- the last element of a mapped list goes to the rest
pub shorter : {A D : Type 0} (f : A → D) (xs : List A) (x : A) (rest : List D) → map f (xs ++ x ∷ []) ++ rest ≡ map f xs ++ (f x ∷ rest)
shorter f [] x rest = refl
shorter f (z ∷ zs) x rest = ap (λ l. f z ∷ l) (shorter f zs x rest)

-- a place of the list has an element
pub some_at : {A : Type 0} (xs : List A) (i : ℕ) → i < length xs → (x : A) × (slice_get xs i ≡ Some x)
some_at [] i lt = absurd (omega (arith, lt))
some_at (z ∷ zs) zero lt = (z, refl)
some_at (z ∷ zs) (suc i) lt = some_at zs i (omega (arith, lt))

-- what is nothing past the end, and nothing of each element, is nothing
pub nothing_at : {A V : Type 0} (f : Option A → V) (none : V) (F : ℕ → A → Type 0) (xs : List A) → Each F xs → f None ≡ none → ((i : ℕ) (x : A) → F i x → f (Some x) ≡ none)
    → (i : ℕ) → f (slice_get xs i) ≡ none
nothing_at f none F [] each past each_none i = past
nothing_at f none F (z ∷ zs) each past each_none zero = each_none zero z (each zero z refl)
nothing_at f none F (z ∷ zs) each past each_none (suc i) = nothing_at f none (λ j. F (suc j)) zs (λ j u e. each (suc j) u e) past (λ j u h. each_none (suc j) u h) i

module _ {A : Type 0} (P : A → Type 0) where
  pub all_rest : (xs : List A) (x : A) → All P (xs ++ x ∷ []) → All P xs
  all_rest xs x all k d lt = subst P (get_or-append xs (x ∷ []) d k lt) (all k d (omega (arith, lt, length-append xs (x ∷ []))))

  pub all_last : (xs : List A) (x : A) → All P (xs ++ x ∷ []) → P x
  all_last xs x all = subst P (get_or-append_seam xs x [] x) (all (length xs) x (omega (arith, length-append xs (x ∷ []))))
