-- Terms of equal order are equal, and a term has an equal order with itself.
use Rattle.std.proofs.Common.{◌≡◌, refl, sym, ap, ◌∙◌, suc, true, false, List, [], ◌∷◌, length}
use Rattle.std.specs.declared.cmp.Ordering.{Ordering}
use Rattle.std.specs.declared.cmp.Ordering.TheVariants.{Less, Equal, Greater}
use Rattle.std.specs.Ordering.{nat_cmp, ordering_then, is_eq}
use Rattle.std.specs.Cmp.{nat_cmp_is, int_cmp_is}
use Rattle.std.specs.Cmp.Lexicographic.{slice_cmp}
use Rattle.std.specs.FinMap.{nat_cmp-IsAntisymmetric, int_cmp-IsAntisymmetric}
use Rattle.elan_terms.specs.declared.tree.OpId.{OpId}
use Rattle.elan_terms.specs.declared.tree.Term.{Term}
use Rattle.elan_terms.specs.declared.tree.TermNode.{TermNode, Int, App, App', Row_of-Term, end_of-Term, more_of-Term, items-the_row-Term, items_shown-the_row-Term-0, roll-TermNode, roll-out-TermNode}
use Rattle.elan_terms.specs.declared.tree.TermNode.TheVariants.{rolls-App, outs-App'}
use Rattle.elan_terms.specs.declared.tree.TermNode.TheBlock.{shown-the_row-Term-0}
use Rattle.elan_terms.specs.Trees.{fold_node, fold_row}
use Rattle.elan_terms.specs.Term.{order, int_order, app_order, same}

then_first : (a b : Ordering) → ordering_then a b ≡ Equal → a ≡ Equal
then_first Less b e = e
then_first Equal b e = refl
then_first Greater b e = e

then_second : (a b : Ordering) → ordering_then a b ≡ Equal → b ≡ Equal
then_second Less b e = absurd (less e)
  where
    less : Less ≡ Equal → ⊥
    less f = cc
then_second Equal b e = e
then_second Greater b e = absurd (greater e)
  where
    greater : Greater ≡ Equal → ⊥
    greater f = cc

not_less : Less ≡ Equal → ⊥
not_less e = cc

not_greater : Greater ≡ Equal → ⊥
not_greater e = cc

-- a node of a shape and a row is one of a list
node-is : (op : OpId) (shape : _) (row : Row_of-Term _) → App' op shape row ≡ App op (items-the_row-Term _ row)
node-is op shape row =
    sym (roll-out-TermNode (App' op shape row)) ∙ ap roll-TermNode (outs-App' op shape row) ∙ rolls-App op (shown-the_row-Term-0 shape row)
    ∙ ap (App op) (items_shown-the_row-Term-0 shape row)

mutual
  node_equal : (x y : TermNode) → fold_node int_order app_order x (record { node = y }) ≡ Equal → x ≡ y
  node_equal (Int z) (Int y) e = ap (λ i. Int i) (int_cmp-IsAntisymmetric z y e)
  node_equal (Int z) (App' op shape row) e = absurd (not_less e)
  node_equal (App' op shape row) (Int y) e = absurd (not_greater e)
  node_equal (App' op shape row) (App' op' shape' row') e =
      let rest : _ = then_second (nat_cmp op.0 op'.0) _ e in
      let heads : op.0 ≡ op'.0 = nat_cmp-IsAntisymmetric op.0 op'.0 (then_first (nat_cmp op.0 op'.0) _ e) in
      node-is op shape row ∙ ap (λ i. App (record { 0 = i }) (items-the_row-Term _ row)) heads
      ∙ ap (App op') (row_equal row (items-the_row-Term _ row') (then_second _ _ rest)) ∙ sym (node-is op' shape' row')

  row_equal : {n : _} (row : Row_of-Term n) (us : List Term) → slice_cmp (λ before u. before u) (fold_row int_order app_order row) us ≡ Equal → items-the_row-Term n row ≡ us
  row_equal end_of-Term [] e = refl
  row_equal end_of-Term (u ∷ us) e = absurd (not_less e)
  row_equal (more_of-Term x rest) [] e = absurd (not_greater e)
  row_equal (more_of-Term x rest) (u ∷ us) e =
      ap (λ i. record { node = i } ∷ items-the_row-Term _ rest) (node_equal x u.node (then_first _ _ e))
      ∙ ap (λ r. u ∷ r) (row_equal rest us (then_second _ _ e))

pub order-equal : (t u : Term) → order t u ≡ Equal → t ≡ u
unfolding order
order-equal t u e = ap (λ i. record { node = i }) (node_equal t.node u.node e)

-- ---- itself

row-length : {n : _} (row : Row_of-Term n) → length (fold_row int_order app_order row) ≡ length (items-the_row-Term n row)
row-length end_of-Term = refl
row-length (more_of-Term x rest) = ap suc (row-length rest)

mutual
  node_self : (x : TermNode) → fold_node int_order app_order x (record { node = x }) ≡ Equal
  node_self (Int z) = sym (int_cmp_is z z Equal refl)
  node_self (App' op shape row) =
      ap (λ o. ordering_then o (ordering_then (nat_cmp (length (fold_row int_order app_order row)) (length (items-the_row-Term _ row))) (slice_cmp (λ before u. before u) (fold_row int_order app_order row) (items-the_row-Term _ row)))) (sym (nat_cmp_is op.0 op.0 Equal refl))
      ∙ ap (λ k. ordering_then (nat_cmp k (length (items-the_row-Term _ row))) (slice_cmp (λ before u. before u) (fold_row int_order app_order row) (items-the_row-Term _ row))) (row-length row)
      ∙ ap (λ o. ordering_then o (slice_cmp (λ before u. before u) (fold_row int_order app_order row) (items-the_row-Term _ row))) (sym (nat_cmp_is (length (items-the_row-Term _ row)) (length (items-the_row-Term _ row)) Equal refl))
      ∙ row_self row

  row_self : {n : _} (row : Row_of-Term n) → slice_cmp (λ before u. before u) (fold_row int_order app_order row) (items-the_row-Term n row) ≡ Equal
  row_self end_of-Term = refl
  row_self (more_of-Term x rest) =
      ap (λ o. ordering_then o (slice_cmp (λ before u. before u) (fold_row int_order app_order rest) (items-the_row-Term _ rest))) (node_self x) ∙ row_self rest

pub order-itself : (t : Term) → order t t ≡ Equal
unfolding order
order-itself t = node_self t.node

equal_of : (o : Ordering) → is_eq o ≡ true → o ≡ Equal
equal_of Less e = absurd (no e)
  where
    no : false ≡ true → ⊥
    no f = cc
equal_of Equal e = refl
equal_of Greater e = absurd (no e)
  where
    no : false ≡ true → ⊥
    no f = cc

-- the test of equality is right, both ways
pub same-equal : (t u : Term) → same t u ≡ true → t ≡ u
same-equal t u e = order-equal t u (equal_of (order t u) e)

pub equal-same : (t u : Term) → t ≡ u → same t u ≡ true
equal-same t u e = ap (λ v. same t v) (sym e) ∙ ap is_eq (order-itself t)
