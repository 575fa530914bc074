-- What a name stands for is there.
use Rattle.std.proofs.Common.{◌≡◌, refl, sym, ap, ◌∙◌, ℕ, ◌+◌, Bool, true, false, ◌&&◌, List, [], ◌∷◌, ◌++◌, length, arith}
use Rattle.std.specs.Prelude.{Option, Some, None, if◌then◌else◌, nat_lt, slice_get}
use Rattle.std.specs.List.{list_all}
use Rattle.std.proofs.lemmas.Grind.{common_steps}
use Rattle.elan_program.specs.Validity.{do_ascend}
use Rattle.elan_names.specs.Names.{first, places, where_passed}
use Rattle.elan_names.proofs.IndexLemmas.{at_seam, longer, one_more}

-- ---- numbers ascend

-- the first number is this one or a later one, and each is followed by a greater one
abbrev Ascends : ℕ → List ℕ → Bool
Ascends n [] = true
Ascends n (m ∷ ms) = nat_lt n (m + 1) && do_ascend (m ∷ ms)

lower : (n : ℕ) (ms : List ℕ) → Ascends (n + 1) ms ≡ true → Ascends n ms ≡ true
lower n [] e = refl
lower n (m ∷ ms) e = grind (arith, common_steps)

in_front : (n : ℕ) (ms : List ℕ) → Ascends (n + 1) ms ≡ true → Ascends n (n ∷ ms) ≡ true
in_front n [] e = grind (arith, common_steps)
in_front n (m ∷ ms) e = grind (arith, common_steps)

step : (b : Bool) (n : ℕ) (ms : List ℕ) → Ascends (n + 1) ms ≡ true → Ascends n (where_passed b n ++ ms) ≡ true
step true n ms e = in_front n ms e
step false n ms e = lower n ms e

right : (a b : Bool) → a && b ≡ true → b ≡ true
right true b e = e
right false b e = cc

ascend : (n : ℕ) (ms : List ℕ) → Ascends n ms ≡ true → do_ascend ms ≡ true
ascend n [] e = refl
ascend n (m ∷ ms) e = right _ (do_ascend (m ∷ ms)) e

module _ {A : Type 0} (p : A → Bool) where
  from_here : (n : ℕ) (xs : List A) → Ascends n (places p n xs) ≡ true
  from_here n [] = refl
  from_here n (x ∷ xs) = step (p x) n (places p (n + 1) xs) (from_here (n + 1) xs)

  -- the numbers of those that pass a test ascend, each once
  pub places_ascend : (n : ℕ) (xs : List A) → do_ascend (places p n xs) ≡ true
  places_ascend n xs = ascend n (places p n xs) (from_here n xs)

-- ---- what was found is there, and passes the test

module _ {A : Type 0} (p : A → Bool) (test : Option A → Bool) (holds : (x : A) → p x ≡ true → test (Some x) ≡ true) where
  pub places_hold : (w pre xs : List A) (n : ℕ) → w ≡ pre ++ xs → n ≡ length pre
      → list_all (λ k. test (slice_get w k)) (places p n xs) ≡ true
  places_hold w pre [] n e l = refl
  places_hold w pre (x ∷ xs) n e l =
      go (places_hold w (pre ++ x ∷ []) xs (n + 1) (longer w pre x xs e) (one_more pre x n l)) (p x) refl
    where
      go : list_all (λ k. test (slice_get w k)) (places p (n + 1) xs) ≡ true → (b : Bool) → p x ≡ b
          → list_all (λ k. test (slice_get w k)) (where_passed b n ++ places p (n + 1) xs) ≡ true
      go r true h = ap (λ b. b && list_all (λ k. test (slice_get w k)) (places p (n + 1) xs)) (ap test (at_seam w pre x xs n e l) ∙ holds x h) ∙ r
      go r false h = r

abbrev number : {A : Type 0} → ℕ → Option (ℕ × A) → ℕ
number n None = n
number n (Some found) = found.0

abbrev item : {A : Type 0} → A → Option (ℕ × A) → A
item x None = x
item x (Some found) = found.1

abbrev head_or : ℕ → List ℕ → ℕ
head_or n [] = n
head_or n (k ∷ ks) = k

none_is_none : {A : Type 0} (found : ℕ × A) → None ≡ Some found → ⊥
none_is_none found e = cc

nothing_there : (k : ℕ) (ks : List ℕ) → [] ≡ k ∷ ks → ⊥
nothing_there k ks e = cc

module _ {A : Type 0} (p : A → Bool) where
  -- the first that passes a test is there, and passes it
  pub first_found : (w pre xs : List A) (n : ℕ) → w ≡ pre ++ xs → n ≡ length pre
      → (k : ℕ) (y : A) → first p n xs ≡ Some (k, y) → (slice_get w k ≡ Some y) × (p y ≡ true)
  first_found w pre [] n e l k y f = absurd (none_is_none (k, y) f)
  first_found w pre (x ∷ xs) n e l k y f =
      go (λ more. first_found w (pre ++ x ∷ []) xs (n + 1) (longer w pre x xs e) (one_more pre x n l) k y more) (p x) refl f
    where
      go : (first p (n + 1) xs ≡ Some (k, y) → (slice_get w k ≡ Some y) × (p y ≡ true)) → (b : Bool) → p x ≡ b
          → (if b then Some (n, x) else first p (n + 1) xs) ≡ Some (k, y) → (slice_get w k ≡ Some y) × (p y ≡ true)
      go r true h f = (ap (slice_get w) (sym (ap (number n) f)) ∙ at_seam w pre x xs n e l ∙ ap Some (ap (item x) f), ap p (sym (ap (item x) f)) ∙ h)
      go r false h f = r f

  -- what has the first number of those that pass a test is there, and passes it
  pub place_found : (w pre xs : List A) (n : ℕ) → w ≡ pre ++ xs → n ≡ length pre
      → (k : ℕ) (ks : List ℕ) → places p n xs ≡ k ∷ ks → (y : A) × (slice_get w k ≡ Some y) × (p y ≡ true)
  place_found w pre [] n e l k ks f = absurd (nothing_there k ks f)
  place_found w pre (x ∷ xs) n e l k ks f =
      go (λ more. place_found w (pre ++ x ∷ []) xs (n + 1) (longer w pre x xs e) (one_more pre x n l) k ks more) (p x) refl f
    where
      go : (places p (n + 1) xs ≡ k ∷ ks → (y : A) × (slice_get w k ≡ Some y) × (p y ≡ true)) → (b : Bool) → p x ≡ b
          → where_passed b n ++ places p (n + 1) xs ≡ k ∷ ks → (y : A) × (slice_get w k ≡ Some y) × (p y ≡ true)
      go r true h f = (x, ap (slice_get w) (sym (ap (head_or n) f)) ∙ at_seam w pre x xs n e l, h)
      go r false h f = r f
