-- Clearing marks.
use Rattle.std.specs.Prelude.{◌≡◌, ℕ, ◌+◌, ◌<◌, length, take, drop, List, [], ◌∷◌, ◌++◌}
use Rattle.std.proofs.Common.{sym, ◌∙◌, ap, arith, get_or, set}
use Rattle.std.proofs.lemmas.List.{take_more_set, take_more, drop_more}
use Rattle.elan_tree.specs.Tree.{Tree, Trees, none, more, Arms, no_arm, arm, trees}
use Rattle.elan_tree.specs.Shape.{arms_of}
use Rattle.elan_tree.specs.Marks.{unmarked, all_unmarked, arms_unmarked}
use Rattle.elan_tree.specs.Marks.{Place}
use Rattle.elan_tree.specs.declared.node.Arm.{Arm}

abbrev first_of : {A : Type 0} → A → List A → A
first_of d [] = d
first_of d (a ∷ as') = a

module _ {I O K : Type 0} where
  abbrev first_tree : Tree I O K → Trees I O K → Tree I O K
  first_tree d none = d
  first_tree d (more t ts) = t

  abbrev rest_trees : Trees I O K → Trees I O K
  rest_trees none = none
  rest_trees (more t ts) = ts

  abbrev first_arm : Tree I O K → Arms I O K → Tree I O K
  first_arm d no_arm = d
  first_arm d (arm t k arms) = t

  abbrev first_then : K → Arms I O K → K
  first_then d no_arm = d
  first_then d (arm t k arms) = k

  abbrev rest_arms : Arms I O K → Arms I O K
  rest_arms no_arm = no_arm
  rest_arms (arm t k arms) = arms

module _ {B I K : Type 0} where
  -- the first children of xs are those of all, unmarked
  abbrev pub Cleared : List (Tree I (Place B) K) → List (Tree I (Place B) K) → Type 0
  Cleared xs all = trees xs ≡ all_unmarked (trees all)

  unmark_push : (xs all : List (Tree I (Place B) K)) (t u : Tree I (Place B) K) → Cleared xs all → u ≡ unmarked t → Cleared (xs ++ u ∷ []) (all ++ t ∷ [])
  unmark_push [] [] t u h e = ap (λ x. more x none) e
  unmark_push [] (y ∷ all) t u h e = absurd (cc h)
  unmark_push (x ∷ xs) [] t u h e = absurd (cc h)
  unmark_push (x ∷ xs) (y ∷ all) t u h e = λ j. more (ap (first_tree x) h j) (unmark_push xs all t u (ap rest_trees h) e j)

  -- one more child is cleared
  pub clear_next : (xs all : List (Tree I (Place B) K)) (i : ℕ) (t u : Tree I (Place B) K) → i < length xs → length xs ≡ length all → drop i xs ≡ drop i all
      → Cleared (take i xs) (take i all) → t ≡ get_or xs i t → u ≡ unmarked t → Cleared (take (i + 1) (set xs i u)) (take (i + 1) all)
  clear_next xs all i t u lt e f h g k =
      let same : get_or xs i t ≡ get_or all i t = ap (first_of t) (sym (drop_more xs i t lt) ∙ f ∙ drop_more all i t (omega arith)) in
      ap trees (take_more_set xs i u lt) ∙ unmark_push (take i xs) (take i all) t u h k ∙ ap (λ l. all_unmarked (trees l)) (ap (λ x. take i all ++ x ∷ []) (g ∙ same) ∙ sym (take_more all i t (omega arith)))

  -- the same for alternatives
  arm_push : (xs all : List (Arm I (Place B) K)) (a b : Arm I (Place B) K) → arms_of xs ≡ arms_unmarked (arms_of all) → b.node.value ≡ unmarked a.node.value → b.then ≡ a.then
      → arms_of (xs ++ b ∷ []) ≡ arms_unmarked (arms_of (all ++ a ∷ []))
  arm_push [] [] a b h e f = λ j. arm (e j) (f j) no_arm
  arm_push [] (y ∷ all) a b h e f = absurd (cc h)
  arm_push (x ∷ xs) [] a b h e f = absurd (cc h)
  arm_push (x ∷ xs) (y ∷ all) a b h e f = λ j. arm (ap (first_arm x.node.value) h j) (ap (first_then x.then) h j) (arm_push xs all a b (ap rest_arms h) e f j)

  pub clear_arm : (xs all : List (Arm I (Place B) K)) (i : ℕ) (a b : Arm I (Place B) K) → i < length xs → length xs ≡ length all → drop i xs ≡ drop i all
      → arms_of (take i xs) ≡ arms_unmarked (arms_of (take i all)) → a ≡ get_or xs i a → b.node.value ≡ unmarked a.node.value → b.then ≡ a.then
      → arms_of (take (i + 1) (set xs i b)) ≡ arms_unmarked (arms_of (take (i + 1) all))
  clear_arm xs all i a b lt e f h g k l =
      let same : get_or xs i a ≡ get_or all i a = ap (first_of a) (sym (drop_more xs i a lt) ∙ f ∙ drop_more all i a (omega arith)) in
      ap arms_of (take_more_set xs i b lt) ∙ arm_push (take i xs) (take i all) a b h k l
      ∙ ap (λ x. arms_unmarked (arms_of x)) (ap (λ x. take i all ++ x ∷ []) (g ∙ same) ∙ sym (take_more all i a (omega arith)))
