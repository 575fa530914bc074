-- A pattern and a term of different heads have no match.
use Rattle.std.proofs.Common.{◌≡◌, refl, sym, ap, ◌∙◌, ℕ, ℤ, Bool, true, false, List, [], ◌∷◌, nat_cmp, eq-eqb}
use Rattle.std.specs.Prelude.{◌==◌}
use Rattle.std.specs.Ordering.{int_eq, ordering_then, is_eq}
use Rattle.std.specs.declared.cmp.Ordering.{Ordering}
use Rattle.std.specs.declared.cmp.Ordering.TheVariants.{Less, Equal, Greater}
use Rattle.std.specs.List.{filter}
use Rattle.elan_terms.specs.declared.tree.OpId.{OpId}
use Rattle.elan_terms.specs.declared.tree.SortId.{SortId}
use Rattle.elan_terms.specs.declared.tree.Term.{Term}
use Rattle.elan_terms.specs.declared.tree.TermNode as term
use Rattle.elan_terms.specs.declared.tree.Pattern.{Pattern}
use Rattle.elan_terms.specs.declared.tree.PatternNode as pattern
use Rattle.elan_terms.specs.declared.tree.Shapes.{Shapes}
use Rattle.elan_terms.specs.Trees.{int_term}
use Rattle.elan_terms.specs.Term.{same, order, node}
use Rattle.elan_terms.specs.Match.{instance, fits, matches, may_fit, heads_agree}
use Rattle.std.specs.FinMap.{nat_cmp-IsAntisymmetric}
use Rattle.elan_terms.proofs.TermLemmas.{order-app, order-int_int}

-- ---- what the test answers

module _ (p : Pattern) (t : Term) where
  pub may_fit-var : (x : ℕ) (s : SortId) → p.node ≡ pattern.Var x s → true ≡ may_fit p t
  unfolding may_fit
  may_fit-var x s e = sym (ap (λ n. heads_agree n t.node) e)

  pub may_fit-ints : (z y : ℤ) → p.node ≡ pattern.Int z → t.node ≡ term.Int y → int_eq z y ≡ may_fit p t
  unfolding may_fit
  may_fit-ints z y e f = sym (ap (λ n. heads_agree n t.node) e ∙ ap (heads_agree (pattern.Int z)) f)

  pub may_fit-int_app : (z : ℤ) (op : OpId) (args : List Term) → p.node ≡ pattern.Int z → t.node ≡ term.App op args → false ≡ may_fit p t
  unfolding may_fit
  may_fit-int_app z op args e f = sym (ap (λ n. heads_agree n t.node) e ∙ ap (heads_agree (pattern.Int z)) f)

  pub may_fit-app_int : (op : OpId) (args : List Pattern) (y : ℤ) → p.node ≡ pattern.App op args → t.node ≡ term.Int y → false ≡ may_fit p t
  unfolding may_fit
  may_fit-app_int op args y e f = sym (ap (λ n. heads_agree n t.node) e ∙ ap (heads_agree (pattern.App op args)) f)

  pub may_fit-apps : (op f : OpId) (args : List Pattern) (us : List Term) → p.node ≡ pattern.App op args → t.node ≡ term.App f us → (op.0 == f.0) ≡ may_fit p t
  unfolding may_fit
  may_fit-apps op f args us e e' = sym (ap (λ n. heads_agree n t.node) e ∙ ap (heads_agree (pattern.App op args)) e')

pub ruleset heads = (may_fit-var, may_fit-ints, may_fit-int_app, may_fit-app_int, may_fit-apps)

-- ---- different heads

not_both : {A : Type 0} → true ≡ false → A
not_both e = absurd (no e)
  where
    no : true ≡ false → ⊥
    no f = cc

unequal_first : (c o : Ordering) → (c ≡ Equal → ⊥) → is_eq (ordering_then c o) ≡ false
unequal_first Less o other = refl
unequal_first Equal o other = absurd (other refl)
unequal_first Greater o other = refl

other_operator : (a b : ℕ) (o : Ordering) → (a == b) ≡ false → is_eq (ordering_then (nat_cmp a b) o) ≡ false
other_operator a b o differ = unequal_first (nat_cmp a b) o (λ e. not_both (sym (eq-eqb a b (nat_cmp-IsAntisymmetric a b e)) ∙ differ))

int_before : (z : ℤ) (f : OpId) (shape : _) (row : term.Row_of-Term _) → order (int_term z) (record { node = term.App' f shape row }) ≡ Less
unfolding order
int_before z f shape row = refl

instance_differs : (shapes : Shapes) (value : ℕ → Term) (x : pattern.PatternNode) (n : term.TermNode) → heads_agree x n ≡ false → same (instance shapes value (record { node = x })) (record { node = n }) ≡ false
unfolding instance node
instance_differs shapes value (pattern.Var x s) n differ = not_both differ
instance_differs shapes value (pattern.Int z) (term.Int y) differ = ap is_eq (order-int_int (int_term z) (int_term y) z y refl refl) ∙ differ
instance_differs shapes value (pattern.Int z) (term.App' f shape row) differ = ap is_eq (int_before z f shape row)
instance_differs shapes value (pattern.App' op shape row) (term.Int y) differ = ap is_eq (order-app op _ (record { node = term.Int y }))
instance_differs shapes value (pattern.App' op shape row) (term.App' f shape' row') differ =
    ap is_eq (order-app op _ (record { node = term.App' f shape' row' })) ∙ other_operator op.0 f.0 _ differ

none_kept : {X : Type 0} (f : X → Bool) (xs : List X) → ((x : X) → f x ≡ false) → filter f xs ≡ []
none_kept f [] never = refl
none_kept f (x ∷ xs) never = rw (never x) (none_kept f xs never)

pub matches-none : (shapes : Shapes) (p : Pattern) (t : Term) → may_fit p t ≡ false → [] ≡ matches shapes p t
unfolding may_fit matches fits
matches-none shapes p t differ = sym (none_kept _ _ (λ a. instance_differs shapes _ p.node t.node differ))

pub ruleset different = (matches-none)
