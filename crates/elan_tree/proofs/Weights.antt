-- What is left of a list of children weighs no more than the list.
use Rattle.std.specs.Prelude.{◌≡◌, ℕ, ◌≤◌, ◌<◌, length, List, [], ◌∷◌, drop}
use Rattle.std.proofs.Common.{zero, suc, ap, arith, get_or}
use Rattle.elan_tree.specs.Tree.{Tree, trees, weight, weights, arms_weight}
use Rattle.elan_tree.specs.Shape.{arms_of}
use Rattle.elan_tree.specs.declared.node.Arm.{Arm}

module _ {I O K : Type 0} where
  pub weight_drop : (xs : List (Tree I O K)) (i : ℕ) → weights (trees (drop i xs)) ≤ weights (trees xs)
  weight_drop xs zero = omega arith
  weight_drop [] (suc i) = omega arith
  weight_drop (x ∷ xs) (suc i) = omega (arith, weight_drop xs i)

  weight_at : (xs : List (Tree I O K)) (i : ℕ) (d : Tree I O K) → i < length xs → weight (get_or xs i d) ≤ weights (trees (drop i xs))
  weight_at [] i d lt = absurd (omega arith)
  weight_at (x ∷ xs) zero d lt = omega arith
  weight_at (x ∷ xs) (suc i) d lt = weight_at xs i d (omega arith)

  -- a child that the loop has yet to visit weighs no more than all that there were
  pub weight_left : (xs all : List (Tree I O K)) (i : ℕ) (t : Tree I O K) → i < length xs → t ≡ get_or xs i t → drop i xs ≡ drop i all → weight t ≤ weights (trees all)
  weight_left xs all i t lt e f =
      let a = weight_at xs i t lt in
      let b = weight_drop all i in
      let c = ap weight e in
      let d = ap (λ l. weights (trees l)) f in
      omega arith

  arms_drop : (xs : List (Arm I O K)) (i : ℕ) → arms_weight (arms_of (drop i xs)) ≤ arms_weight (arms_of xs)
  arms_drop xs zero = omega arith
  arms_drop [] (suc i) = omega arith
  arms_drop (x ∷ xs) (suc i) = omega (arith, arms_drop xs i)

  arm_at : (xs : List (Arm I O K)) (i : ℕ) (d : Arm I O K) → i < length xs → weight (get_or xs i d).node.value ≤ arms_weight (arms_of (drop i xs))
  arm_at [] i d lt = absurd (omega arith)
  arm_at (x ∷ xs) zero d lt = omega arith
  arm_at (x ∷ xs) (suc i) d lt = arm_at xs i d (omega arith)

  pub arm_left : (xs all : List (Arm I O K)) (i : ℕ) (a : Arm I O K) → i < length xs → a ≡ get_or xs i a → drop i xs ≡ drop i all
      → weight a.node.value ≤ arms_weight (arms_of all)
  arm_left xs all i a lt e f =
      let p = arm_at xs i a lt in
      let q = arms_drop all i in
      let r = ap (λ (x : Arm I O K). weight x.node.value) e in
      let s = ap (λ l. arms_weight (arms_of l)) f in
      omega arith
