-- Elements of lists, step by step.
use Rattle.std.proofs.Common.{◌≡◌, refl, sym, ap, ◌∙◌, ℕ, zero, suc, ◌<◌, Bool, true, false, ◌||◌, ◌&&◌, cond, Some, List, [], ◌∷◌, map, length, slice_get, slice_index_or, arith}
use Rattle.std.proofs.lemmas.Option.{slice_get_within, get_or_from_slice_get}
use Rattle.std.specs.List.{Contains, filter, list_any, list_all}

pub data Has {X : Type 0} (x : X) : List X → Type 0 where
  here : {y : X} {xs : List X} → y ≡ x → Has x (y ∷ xs)
  there : {y : X} {xs : List X} → Has x xs → Has x (y ∷ xs)

has_at : {X : Type 0} (xs : List X) (k : ℕ) (x : X) → k < length xs → slice_index_or xs k x ≡ x → Has x xs
has_at [] k x inside is = absurd (omega arith)
has_at (y ∷ xs) zero x inside is = here is
has_at (y ∷ xs) (suc k) x inside is = there (has_at xs k x (omega arith) is)

pub has_contains : {X : Type 0} (xs : List X) (x : X) → Contains xs x → Has x xs
has_contains xs x c = has_at xs c.0 x c.1 c.2

pub contains_has : {X : Type 0} (x : X) (xs : List X) → Has x xs → Contains xs x
contains_has x [] h = elim h [ ]
contains_has x (y ∷ xs) (here e) = (0, omega arith, e)
contains_has x (y ∷ xs) (there h) = let c = contains_has x xs h in (suc c.0, omega (arith, c.1), c.2)

pub true-is_no-false : true ≡ false → ⊥
true-is_no-false e = cc

or_right : (a b : Bool) → b ≡ true → (a || b) ≡ true
or_right true b e = refl
or_right false b e = e

-- an element that passes a test
pub passes : {X : Type 0} (x : X) (test : X → Bool) (xs : List X) → Has x xs → test x ≡ true → list_any test xs ≡ true
passes x test [] h t = elim h [ ]
passes x test (y ∷ xs) (here e) t = ap (λ b. b || list_any test xs) (ap test e ∙ t)
passes x test (y ∷ xs) (there h) t = or_right (test y) (list_any test xs) (passes x test xs h t)

-- one of the elements passes
found_by : {X : Type 0} (y : X) (test : X → Bool) (xs : List X) (b : Bool) → test y ≡ b
    → (list_any test xs ≡ true → (x : X) × Has x xs × (test x ≡ true)) → (b || list_any test xs) ≡ true
    → (x : X) × Has x (y ∷ xs) × (test x ≡ true)
found_by y test xs true is rest e = (y, here refl, is)
found_by y test xs false is rest e = let r = rest e in (r.0, there r.1, r.2)

pub found : {X : Type 0} (test : X → Bool) (xs : List X) → list_any test xs ≡ true → (x : X) × Has x xs × (test x ≡ true)
found test [] e = absurd (cc)
found test (y ∷ xs) e = found_by y test xs (test y) refl (found test xs) e

-- what one value of those that are kept passes
module _ {X Y : Type 0} (h : X → Y) (keep : X → Bool) (test : Y → Bool) where
  abbrev Kept : X → Type 0
  Kept x = (keep x ≡ true) × (test (h x) ≡ true)

  kept_there : (y : X) (xs : List X) (b : Bool) → keep y ≡ b → list_any test (map h (filter keep xs)) ≡ true
      → list_any test (map h (cond b (y ∷ filter keep xs) (filter keep xs))) ≡ true
  kept_there y xs true is e = or_right (test (h y)) _ e
  kept_there y xs false is e = e

  kept_here : (y : X) (xs : List X) (b : Bool) → keep y ≡ b → Kept y
      → list_any test (map h (cond b (y ∷ filter keep xs) (filter keep xs))) ≡ true
  kept_here y xs true is e = ap (λ b. b || list_any test (map h (filter keep xs))) e.1
  kept_here y xs false is e = absurd (true-is_no-false (sym e.0 ∙ is))

  pub any-kept : (x : X) (xs : List X) → Has x xs → keep x ≡ true → test (h x) ≡ true
      → list_any test (map h (filter keep xs)) ≡ true
  any-kept x [] has k t = elim has [ ]
  any-kept x (y ∷ xs) (here e) k t = kept_here y xs (keep y) refl (ap keep e ∙ k, ap (λ z. test (h z)) e ∙ t)
  any-kept x (y ∷ xs) (there has) k t = kept_there y xs (keep y) refl (any-kept x xs has k t)

  abbrev KeptAmong : List X → Type 0
  KeptAmong xs = (x : X) × Has x xs × (keep x ≡ true) × (test (h x) ≡ true)

  later : (y : X) (xs : List X) → KeptAmong xs → KeptAmong (y ∷ xs)
  later y xs k = (k.0, there k.1, k.2, k.3)

  by_test : (y : X) (xs : List X) (b : Bool) → test (h y) ≡ b → keep y ≡ true → (list_any test (map h (filter keep xs)) ≡ true → KeptAmong xs)
      → (b || list_any test (map h (filter keep xs))) ≡ true → KeptAmong (y ∷ xs)
  by_test y xs true is k rest e = (y, here refl, k, is)
  by_test y xs false is k rest e = later y xs (rest e)

  by_keep : (y : X) (xs : List X) (b : Bool) → keep y ≡ b → (list_any test (map h (filter keep xs)) ≡ true → KeptAmong xs)
      → list_any test (map h (cond b (y ∷ filter keep xs) (filter keep xs))) ≡ true → KeptAmong (y ∷ xs)
  by_keep y xs true is rest e = by_test y xs (test (h y)) refl is rest e
  by_keep y xs false is rest e = later y xs (rest e)

  pub kept-any : (xs : List X) → list_any test (map h (filter keep xs)) ≡ true → KeptAmong xs
  kept-any [] e = absurd (cc)
  kept-any (y ∷ xs) e = by_keep y xs (keep y) refl (kept-any xs) e

-- each element passes
pub all-has : {X : Type 0} (test : X → Bool) (xs : List X) (x : X) → list_all test xs ≡ true → Has x xs → test x ≡ true
all-has test [] x e h = elim h [ ]
all-has test (y ∷ xs) x e h = by_case (test y) refl (λ f g. all-has test xs x f g) e h
  where
    by_case : (b : Bool) → test y ≡ b → (list_all test xs ≡ true → Has x xs → test x ≡ true)
        → (b && list_all test xs) ≡ true → Has x (y ∷ xs) → test x ≡ true
    by_case true is rest e (here same) = sym (ap test same) ∙ is
    by_case true is rest e (there h) = rest e h
    by_case false is rest e h = absurd (true-is_no-false (sym e))

-- the element of a number is one
pub contains-at : {X : Type 0} (xs : List X) (n : ℕ) (x : X) → slice_get xs n ≡ Some x → Contains xs x
contains-at xs n x e = (n, slice_get_within xs n x e, get_or_from_slice_get xs n x x e)
