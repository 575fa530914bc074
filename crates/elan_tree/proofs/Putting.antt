-- Placing a tree at the leftmost place of a number.
use Rattle.std.specs.Prelude.{◌≡◌, ℕ, ◌+◌, ◌<◌, length, take, List, [], ◌∷◌, ◌++◌, Bool, true, false, ◌||◌, refl, if◌then◌else◌}
use Rattle.std.proofs.Common.{zero, suc, sym, ◌∙◌, ap, arith, get_or, set}
use Rattle.std.proofs.lemmas.List.{take_more}
use Rattle.elan_tree.specs.Tree.{Tree, Trees, more, Arms, arm, trees}
use Rattle.elan_tree.specs.Shape.{arms_of}
use Rattle.elan_tree.specs.Places.{has, any_has, arm_has, put, put_all, put_arms}
use Rattle.elan_tree.specs.declared.node.Arm.{Arm}

module _ {I O K : Type 0} (here : O → Bool) (u : Tree I O K) where
  or_false : (a b : Bool) → (a || b) ≡ false → (a ≡ false) × (b ≡ false)
  or_false true b h = absurd (cc h)
  or_false false b h = (refl, h)

  here_put : (t : Tree I O K) (ts : Trees I O K) (b : Bool) → b ≡ true
      → more (put here u t) ts ≡ (if b then more (put here u t) ts else more t (put_all here u ts))
  here_put t ts b h = ap (λ (x : Bool). if x then more (put here u t) ts else more t (put_all here u ts)) (sym h)

  past_put : (t : Tree I O K) (ts us : Trees I O K) (b : Bool) → b ≡ false → us ≡ put_all here u ts
      → more t us ≡ (if b then more (put here u t) ts else more t (put_all here u ts))
  past_put t ts us b h e = ap (more t) e ∙ ap (λ (x : Bool). if x then more (put here u t) ts else more t (put_all here u ts)) (sym h)

  -- the first child with such a place gets the tree
  pub put_at : (xs : List (Tree I O K)) (i : ℕ) (d new : Tree I O K) → i < length xs → any_has here (trees (take i xs)) ≡ false
      → has here (get_or xs i d) ≡ true → new ≡ put here u (get_or xs i d) → (any_has here (trees xs) ≡ true) × (trees (set xs i new) ≡ put_all here u (trees xs))
  put_at [] i d new lt before h e = absurd (omega arith)
  put_at (x ∷ xs) zero d new lt before h e = (ap (λ b. b || any_has here (trees xs)) h, ap (λ t. more t (trees xs)) e ∙ here_put x (trees xs) (has here x) h)
  put_at (x ∷ xs) (suc i) d new lt before h e =
      let both = or_false (has here x) (any_has here (trees (take i xs))) before in
      let rest = put_at xs i d new (omega arith) both.1 h e in
      (ap (λ b. b || any_has here (trees xs)) both.0 ∙ rest.0, past_put x (trees xs) (trees (set xs i new)) (has here x) both.0 rest.1)

  any_push : (xs : List (Tree I O K)) (t : Tree I O K) → any_has here (trees xs) ≡ false → has here t ≡ false → any_has here (trees (xs ++ t ∷ [])) ≡ false
  any_push [] t h e = ap (λ b. b || false) e
  any_push (x ∷ xs) t h e =
      let both = or_false (has here x) (any_has here (trees xs)) h in
      ap (λ b. b || any_has here (trees (xs ++ t ∷ []))) both.0 ∙ any_push xs t both.1 e

  -- one more child without such a place
  pub none_next : (xs : List (Tree I O K)) (i : ℕ) (d : Tree I O K) → i < length xs → any_has here (trees (take i xs)) ≡ false → has here (get_or xs i d) ≡ false
      → any_has here (trees (take (i + 1) xs)) ≡ false
  none_next xs i d lt h e = ap (λ l. any_has here (trees l)) (take_more xs i d lt) ∙ any_push (take i xs) (get_or xs i d) h e

  here_arm : (t : Tree I O K) (k : K) (arms : Arms I O K) (b : Bool) → b ≡ true
      → arm (put here u t) k arms ≡ (if b then arm (put here u t) k arms else arm t k (put_arms here u arms))
  here_arm t k arms b h = ap (λ (x : Bool). if x then arm (put here u t) k arms else arm t k (put_arms here u arms)) (sym h)

  past_arm : (t : Tree I O K) (k : K) (xs ys : Arms I O K) (b : Bool) → b ≡ false → ys ≡ put_arms here u xs
      → arm t k ys ≡ (if b then arm (put here u t) k xs else arm t k (put_arms here u xs))
  past_arm t k xs ys b h e = ap (arm t k) e ∙ ap (λ (x : Bool). if x then arm (put here u t) k xs else arm t k (put_arms here u xs)) (sym h)

  pub put_arm_at : (xs : List (Arm I O K)) (i : ℕ) (d new : Arm I O K) → i < length xs → arm_has here (arms_of (take i xs)) ≡ false
      → has here (get_or xs i d).node.value ≡ true → new.node.value ≡ put here u (get_or xs i d).node.value → new.then ≡ (get_or xs i d).then
      → (arm_has here (arms_of xs) ≡ true) × (arms_of (set xs i new) ≡ put_arms here u (arms_of xs))
  put_arm_at [] i d new lt before h e f = absurd (omega arith)
  put_arm_at (x ∷ xs) zero d new lt before h e f =
      (ap (λ b. b || arm_has here (arms_of xs)) h, (λ j. arm (e j) (f j) (arms_of xs)) ∙ here_arm x.node.value x.then (arms_of xs) (has here x.node.value) h)
  put_arm_at (x ∷ xs) (suc i) d new lt before h e f =
      let both = or_false (has here x.node.value) (arm_has here (arms_of (take i xs))) before in
      let rest = put_arm_at xs i d new (omega arith) both.1 h e f in
      (ap (λ b. b || arm_has here (arms_of xs)) both.0 ∙ rest.0, past_arm x.node.value x.then (arms_of xs) (arms_of (set xs i new)) (has here x.node.value) both.0 rest.1)

  arm_push : (xs : List (Arm I O K)) (a : Arm I O K) → arm_has here (arms_of xs) ≡ false → has here a.node.value ≡ false → arm_has here (arms_of (xs ++ a ∷ [])) ≡ false
  arm_push [] a h e = ap (λ b. b || false) e
  arm_push (x ∷ xs) a h e =
      let both = or_false (has here x.node.value) (arm_has here (arms_of xs)) h in
      ap (λ b. b || arm_has here (arms_of (xs ++ a ∷ []))) both.0 ∙ arm_push xs a both.1 e

  pub no_arm_next : (xs : List (Arm I O K)) (i : ℕ) (d : Arm I O K) → i < length xs → arm_has here (arms_of (take i xs)) ≡ false → has here (get_or xs i d).node.value ≡ false
      → arm_has here (arms_of (take (i + 1) xs)) ≡ false
  no_arm_next xs i d lt h e = ap (λ l. arm_has here (arms_of l)) (take_more xs i d lt) ∙ arm_push (take i xs) (get_or xs i d) h e
