-- The test of equality is right, both ways.
use Rattle.std.proofs.Common.{◌≡◌, refl, sym, ap, ◌∙◌, ℕ, ℤ, Bool, true, false, ◌&&◌, ◌==◌, List, [], ◌∷◌, arith}
use Rattle.std.specs.Ordering.{int_eq}
use Rattle.std.proofs.lemmas.Bool.Decides.{Decides-int_eq}
use Rattle.elan_terms.specs.declared.tree.OpId.{OpId}
use Rattle.elan_terms.specs.declared.tree.Pattern.{Pattern}
use Rattle.elan_terms.specs.declared.tree.PatternNode.{PatternNode, Var, Int, App, App', Row_of-Pattern, end_of-Pattern, more_of-Pattern, items-the_row-Pattern, items_shown-the_row-Pattern-0, roll-PatternNode, roll-out-PatternNode}
use Rattle.elan_terms.specs.declared.tree.PatternNode.TheVariants.{rolls-App, outs-App'}
use Rattle.elan_terms.specs.declared.tree.PatternNode.TheBlock.{shown-the_row-Pattern-0}
use Rattle.elan_terms.specs.Trees.{fold_pattern_node, fold_pattern_row}
use Rattle.elan_entries.specs.Trees.{same, same_var, same_int, same_app, same_all, each}

pub both_true : (a b : Bool) → (a && b) ≡ true → (a ≡ true) × (b ≡ true)
both_true true b e = (refl, e)
both_true false b e = absurd (no e)
  where
    no : false ≡ true → ⊥
    no f = cc

no_true : false ≡ true → ⊥
no_true f = cc

pub nat_same : (m n : ℕ) → (m == n) ≡ true → m ≡ n
nat_same m n e = grind arith

pub nat_self : (n : ℕ) → (n == n) ≡ true
nat_self n = grind arith

-- a node of a shape and a row is one of a list
node-is : (op : OpId) (shape : _) (row : Row_of-Pattern _) → App' op shape row ≡ App op (items-the_row-Pattern _ row)
node-is op shape row =
    sym (roll-out-PatternNode (App' op shape row)) ∙ ap roll-PatternNode (outs-App' op shape row) ∙ rolls-App op (shown-the_row-Pattern-0 shape row)
    ∙ ap (App op) (items_shown-the_row-Pattern-0 shape row)

int_same : (z y : ℤ) → int_eq z y ≡ true → z ≡ y
int_same z y e = (Decides-int_eq z y).0 e

int_self : (z : ℤ) → int_eq z z ≡ true
int_self z = (Decides-int_eq z z).1 refl

mutual
  node_equal : (x y : PatternNode) → fold_pattern_node same_var same_int same_app x (record { node = y }) ≡ true → x ≡ y
  node_equal (Var x s) (Var y t) e =
      let p : _ = both_true _ _ e in
      ap (λ n. Var n s) (nat_same x y p.0) ∙ ap (λ n. Var y (record { 0 = n })) (nat_same s.0 t.0 p.1)
  node_equal (Var x s) (Int z) e = absurd (no_true e)
  node_equal (Var x s) (App' op shape row) e = absurd (no_true e)
  node_equal (Int z) (Var y t) e = absurd (no_true e)
  node_equal (Int z) (Int y) e = ap (λ i. Int i) (int_same z y e)
  node_equal (Int z) (App' op shape row) e = absurd (no_true e)
  node_equal (App' op shape row) (Var y t) e = absurd (no_true e)
  node_equal (App' op shape row) (Int y) e = absurd (no_true e)
  node_equal (App' op shape row) (App' op' shape' row') e =
      let p : _ = both_true _ _ e in
      node-is op shape row ∙ ap (λ i. App (record { 0 = i }) (items-the_row-Pattern _ row)) (nat_same op.0 op'.0 p.0)
      ∙ ap (App op') (row_equal row (items-the_row-Pattern _ row') p.1) ∙ sym (node-is op' shape' row')

  row_equal : {n : _} (row : Row_of-Pattern n) (us : List Pattern) → each (fold_pattern_row same_var same_int same_app row) us ≡ true → items-the_row-Pattern n row ≡ us
  row_equal end_of-Pattern [] e = refl
  row_equal end_of-Pattern (u ∷ us) e = absurd (no_true e)
  row_equal (more_of-Pattern x rest) [] e = absurd (no_true e)
  row_equal (more_of-Pattern x rest) (u ∷ us) e =
      let p : _ = both_true _ _ e in
      ap (λ i. record { node = i } ∷ items-the_row-Pattern _ rest) (node_equal x u.node p.0) ∙ ap (λ r. u ∷ r) (row_equal rest us p.1)

pub same-equal : (t u : Pattern) → same t u ≡ true → t ≡ u
unfolding same
same-equal t u e = ap (λ i. record { node = i }) (node_equal t.node u.node e)

-- ---- itself

mutual
  node_self : (x : PatternNode) → fold_pattern_node same_var same_int same_app x (record { node = x }) ≡ true
  node_self (Var x s) = ap (λ b. b && (s.0 == s.0)) (nat_self x) ∙ nat_self s.0
  node_self (Int z) = int_self z
  node_self (App' op shape row) =
      ap (λ b. b && each (fold_pattern_row same_var same_int same_app row) (items-the_row-Pattern _ row)) (nat_self op.0) ∙ row_self row

  row_self : {n : _} (row : Row_of-Pattern n) → each (fold_pattern_row same_var same_int same_app row) (items-the_row-Pattern n row) ≡ true
  row_self end_of-Pattern = refl
  row_self (more_of-Pattern x rest) =
      ap (λ b. b && each (fold_pattern_row same_var same_int same_app rest) (items-the_row-Pattern _ rest)) (node_self x) ∙ row_self rest

pub same-self : (t : Pattern) → same t t ≡ true
unfolding same
same-self t = node_self t.node

-- ---- lists

pub same_all-equal : (ts us : List Pattern) → same_all ts us ≡ true → ts ≡ us
same_all-equal [] [] e = refl
same_all-equal [] (u ∷ us) e = absurd (no_true e)
same_all-equal (t ∷ ts) [] e = absurd (no_true e)
same_all-equal (t ∷ ts) (u ∷ us) e =
    let p : _ = both_true _ _ e in ap (λ v. v ∷ ts) (same-equal t u p.0) ∙ ap (λ r. u ∷ r) (same_all-equal ts us p.1)

pub same_all-self : (ts : List Pattern) → same_all ts ts ≡ true
same_all-self [] = refl
same_all-self (t ∷ ts) = ap (λ b. b && same_all ts ts) (same-self t) ∙ same_all-self ts

pub same_all-other : (ts us : List Pattern) → same_all ts us ≡ false → ts ≡ us → ⊥
same_all-other ts us e f = no_true (sym e ∙ ap (λ vs. same_all ts vs) (sym f) ∙ same_all-self ts)
