-- What the tests need: a list by its first item and the others, and a term by its node.
use Rattle.std.proofs.Common.{◌≡◌, sym, ap, ◌∙◌, subst, ◌-◌, ◌≤◌, Bool, true, false, Decides, ℤ, List, [], ◌∷◌, length, take, drop, get_or, take_all, All, is_gt, arith}
use Rattle.elan_terms.specs.declared.tree.OpId.{OpId}
use Rattle.elan_terms.specs.declared.tree.Term.{Term}
use Rattle.elan_terms.specs.declared.tree.TermNode as term
use Rattle.elan_terms.specs.Trees.{app_term}
use Rattle.elan_terms.specs.Term.{order}
use Rattle.elan_terms.specs.Nodes.{Throughout}
use Rattle.elan_terms.specs.Ascending.{NotAfter, Ascends}
use Rattle.elan_terms.proofs.Lists.{Pairs, all_of, all_from, pairs_of, pairs_from, all_map}
use Rattle.elan_terms.proofs.NodeLemmas.{throughout_app, app_throughout}
use Rattle.elan_terms.proofs.Sorting.{not_true, not_after_trans}

-- the items after the first
abbrev pub others : {X : Type 0} → List X → List X
others xs = take (length xs - 1) (drop 1 xs)

others-cons : {X : Type 0} (x : X) (xs : List X) → others (x ∷ xs) ≡ xs
others-cons x xs = let le : length xs ≤ length (x ∷ xs) - 1 = omega arith in take_all (length (x ∷ xs) - 1) xs le

-- ---- what holds of each

pub all_with_first : {X : Type 0} (P : X → Type 0) (xs : List X) (x : X) (r : Bool) → 1 ≤ length xs → x ≡ get_or xs 0 x → P x → Decides r (All P (others xs)) → Decides r (All P xs)
all_with_first P [] x r one is p h = absurd (omega arith)
all_with_first P (y ∷ ys) x r one is p h = (
  λ e. all_from P (y ∷ ys) (subst P is p, all_of P ys (subst (All P) (others-cons y ys) (h.0 e))),
  λ all. h.1 (subst (All P) (sym (others-cons y ys)) (all_from P ys (all_of P (y ∷ ys) all).1)),
)

-- ---- what ascends

first_after : (x y : Term) (xs : List Term) → NotAfter x y → Pairs NotAfter (y ∷ xs) → Pairs NotAfter (x ∷ y ∷ xs)
first_after x y xs le h = ((le, all_map (NotAfter y) (NotAfter x) (λ z. not_after_trans x y z le) xs h.0), h)

pub ascends_more : (xs : List Term) (x y : Term) (r : Bool) → 1 ≤ length xs → 1 ≤ length (others xs) → x ≡ get_or xs 0 x → y ≡ get_or (others xs) 0 y
    → is_gt (order x y) ≡ false → Decides r (Ascends (others xs)) → Decides r (Ascends xs)
ascends_more [] x y r one two is is' le h = absurd (omega arith)
ascends_more (a ∷ []) x y r one two is is' le h = absurd (no (subst (λ zs. 1 ≤ length zs) (others-cons a []) two))
  where
    no : 1 ≤ 0 → ⊥
    no l = omega arith
ascends_more (a ∷ b ∷ xs) x y r one two is is' le h =
    let e : y ≡ b = is' ∙ ap (λ zs. get_or zs 0 y) (others-cons a (b ∷ xs)) in (
      λ f. pairs_from NotAfter (a ∷ b ∷ xs) (first_after a b xs (ap (λ z. is_gt (order z b)) (sym is) ∙ ap (λ z. is_gt (order x z)) (sym e) ∙ le) (pairs_of NotAfter (b ∷ xs) (subst Ascends (others-cons a (b ∷ xs)) (h.0 f)))),
      λ all. h.1 (subst Ascends (sym (others-cons a (b ∷ xs))) (pairs_from NotAfter (b ∷ xs) (pairs_of NotAfter (a ∷ b ∷ xs) all).1)),
    )

-- where the first comes after the second
pub ascends_not : (xs : List Term) (x y : Term) (r : Bool) → 1 ≤ length xs → 1 ≤ length (others xs) → x ≡ get_or xs 0 x → y ≡ get_or (others xs) 0 y
    → is_gt (order x y) ≡ true → r ≡ false → Decides r (Ascends xs)
ascends_not [] x y r one two is is' gt off = absurd (omega arith)
ascends_not (a ∷ []) x y r one two is is' gt off = absurd (none (subst (λ zs. 1 ≤ length zs) (others-cons a []) two))
  where
    none : 1 ≤ 0 → ⊥
    none l = omega arith
ascends_not (a ∷ b ∷ xs) x y r one two is is' gt off =
    let e : y ≡ b = is' ∙ ap (λ zs. get_or zs 0 y) (others-cons a (b ∷ xs)) in (
      λ f. not_true (sym f ∙ off),
      λ all. not_true (sym gt ∙ ap (λ z. is_gt (order z y)) is ∙ ap (λ z. is_gt (order a z)) e ∙ (pairs_of NotAfter (a ∷ b ∷ xs) all).0.0),
    )

-- ---- what holds throughout a term

module _ (Int : ℤ → Type 0) (App : OpId → List Term → Type 0) where
  pub throughout_decides : (t : Term) (op : OpId) (args args' : List Term) (r : Bool) → t.node ≡ term.App op args → args' ≡ args → App op args → Decides r (All (Throughout Int App) args') → Decides r (Throughout Int App t)
  throughout_decides t op args args' r is same own h =
      let e : t ≡ app_term op args = ap (λ (n : term.TermNode). record { node = n }) is in (
        λ f. subst (Throughout Int App) (sym e) (app_throughout Int App op args own (all_of (Throughout Int App) args (subst (All (Throughout Int App)) same (h.0 f)))),
        λ k. h.1 (subst (All (Throughout Int App)) (sym same) (all_from (Throughout Int App) args (throughout_app Int App op args (subst (Throughout Int App) e k)).1)),
      )
