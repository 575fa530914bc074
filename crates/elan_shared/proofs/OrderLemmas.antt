-- The cases of the term order, at terms that are known as wholes.
use Rattle.std.proofs.Common.{◌≡◌, sym, ap, ◌∙◌, ℤ, List, length, ◌↔◌, IsTrue}
use Rattle.std.specs.declared.cmp.Ordering.{Ordering}
use Rattle.std.specs.declared.cmp.Ordering.TheVariants.{Less, Equal, Greater}
use Rattle.std.specs.Ordering.{nat_cmp, int_cmp, is_eq}
use Rattle.std.specs.Cmp.Lexicographic.{slice_cmp}
use Rattle.elan_terms.specs.declared.tree.OpId.{OpId}
use Rattle.elan_terms.specs.declared.tree.Term.{Term}
use Rattle.elan_terms.specs.Trees.{int_term, app_term}
use Rattle.elan_terms.specs.Term.{order}
use Rattle.elan_terms.proofs.TermLemmas as terms
use Rattle.elan_terms.proofs.OrderLemmas.{same-equal, equal-same}

pub order-ints : (t u : Term) (x y : ℤ) → t ≡ int_term x → u ≡ int_term y → order t u ≡ int_cmp x y
order-ints t u x y e f = terms.order-int_int t u x y (ap (λ v. v.node) e) (ap (λ v. v.node) f)

pub order-int-before : (t u : Term) (x : ℤ) (op : OpId) (us : List Term) → t ≡ int_term x → u ≡ app_term op us → order t u ≡ Less
order-int-before t u x op us e f = terms.order-int_app t u x op us (ap (λ v. v.node) e) (ap (λ v. v.node) f)

pub order-int-behind : (t u : Term) (op : OpId) (ts : List Term) (y : ℤ) → t ≡ app_term op ts → u ≡ int_term y → order t u ≡ Greater
order-int-behind t u op ts y e f = terms.order-app_int t u op ts y (ap (λ v. v.node) e) (ap (λ v. v.node) f)

module _ (t u : Term) (f g : OpId) (ts us : List Term) (e : t ≡ app_term f ts) (e' : u ≡ app_term g us) where
  pub order-operators : (o : Ordering) → o ≡ nat_cmp f.0 g.0 → ¬ (o ≡ Equal) → o ≡ order t u
  order-operators = terms.order-operators t u f g ts us (ap (λ v. v.node) e) (ap (λ v. v.node) e')

  pub order-lengths : (o : Ordering) → nat_cmp f.0 g.0 ≡ Equal → o ≡ nat_cmp (length ts) (length us) → ¬ (o ≡ Equal) → o ≡ order t u
  order-lengths = terms.order-lengths t u f g ts us (ap (λ v. v.node) e) (ap (λ v. v.node) e')

  pub order-arguments : (o : Ordering) → nat_cmp f.0 g.0 ≡ Equal → nat_cmp (length ts) (length us) ≡ Equal → o ≡ slice_cmp order ts us → o ≡ order t u
  order-arguments = terms.order-arguments t u f g ts us (ap (λ v. v.node) e) (ap (λ v. v.node) e')

-- the test of equality is right, both ways
pub decides : (t u : Term) (o : Ordering) → o ≡ order t u → IsTrue (is_eq o) ↔ (t ≡ u)
decides t u o e = (λ yes. same-equal t u (sym (ap is_eq e) ∙ yes), λ f. ap is_eq e ∙ equal-same t u f)
