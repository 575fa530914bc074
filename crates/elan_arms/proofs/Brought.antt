-- Patterns that an operator does not head bring at least one term.
use Rattle.std.proofs.Common.{◌≡◌, refl, sym, ap, subst, ℕ, ◌≤◌, Bool, true, false, List, [], ◌∷◌, length, arith}
use Rattle.elan_terms.specs.declared.tree.OpId.{OpId}
use Rattle.elan_terms.specs.declared.tree.Term.{Term}
use Rattle.elan_terms.specs.declared.tree.Pattern.{Pattern}
use Rattle.elan_terms.specs.declared.tree.Shapes.{Shapes}
use Rattle.elan_terms.specs.Term.{is_ac, arms_under}
use Rattle.elan_terms.specs.Match.{occurrences, instance}
use Rattle.elan_terms.proofs.Lists.{AllOf, all_of}
use Rattle.elan_arms.specs.Arms.{app_pattern, heads, arms}
use Rattle.elan_arms.specs.Values.{IsProper, AreProper}
use Rattle.elan_arms.proofs.Patterns.{var_pattern, int_pattern, cases_pattern, occurrences-of_var, instance-of_var}
use Rattle.elan_arms.proofs.Nodes.{other-arms, valid-arms}

one_of : (us : List Term) (t : Term) → us ≡ t ∷ [] → 1 ≤ length us
one_of us t e = subst (λ vs. 1 ≤ length vs) (sym e) (omega arith)

module _ (shapes : Shapes) (value : ℕ → Term) where
  proper-brings : (op : OpId) → is_ac shapes op ≡ true → (p : Pattern) → heads op p ≡ false → AllOf (λ v. IsProper shapes (value v.0)) (occurrences p) → 1 ≤ length (arms shapes value op p)
  proper-brings op ac = cases_pattern (λ p. heads op p ≡ false → AllOf (λ v. IsProper shapes (value v.0)) (occurrences p) → 1 ≤ length (arms shapes value op p))
      (λ x s h k. let own : IsProper shapes (value x) = (subst (AllOf (λ v. IsProper shapes (value v.0))) (occurrences-of_var x s) k).0 in
      subst (λ t. 1 ≤ length (arms_under op t)) (sym (instance-of_var shapes value x s)) (valid-arms shapes value op (value x) ac own.valid))
      (λ z h k. one_of (arms shapes value op (int_pattern z)) (instance shapes value (int_pattern z)) (other-arms shapes value op (int_pattern z) refl h))
      (λ f ps h k. one_of (arms shapes value op (app_pattern f ps)) (instance shapes value (app_pattern f ps)) (other-arms shapes value op (app_pattern f ps) refl h))

  pub some-brought : (op : OpId) (p : Pattern) → is_ac shapes op ≡ true → heads op p ≡ false → AreProper shapes value p → 1 ≤ length (arms shapes value op p)
  some-brought op p ac h k = proper-brings op ac p h (all_of (λ v. IsProper shapes (value v.0)) (occurrences p) k)
