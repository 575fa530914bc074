-- The arguments of a node weigh less than the node.
use Rattle.std.proofs.Common.{◌≡◌, sym, ap, ◌∙◌, ℕ, ◌+◌, ◌*◌, ◌<◌, List, length, map, arith}
use Rattle.std.specs.Ordering.{nat_cmp}
use Rattle.std.proofs.lemmas.List.{length-map}
use Rattle.boxcar.specs.Table.{Where}
use Rattle.elan_table.specs.Rows.{terms}
use Rattle.std.specs.declared.cmp.Ordering.{Ordering}
use Rattle.std.specs.declared.cmp.Ordering.TheVariants.{Equal}
use Rattle.elan_terms.specs.declared.tree.OpId.{OpId}
use Rattle.elan_terms.specs.declared.tree.Term.{Term}
use Rattle.elan_terms.specs.Trees.{app_term}
use Rattle.elan_terms.specs.Term.{order}
use Rattle.elan_terms.specs.Weight.{weight, weights}
use Rattle.elan_terms.proofs.WeightLemmas.{weight-app}
use Rattle.elan_terms.proofs.OrderLemmas.{order-itself}

pub twice_falls : (t : Term) (op : OpId) (ts : List Term) (n : ℕ) → 2 * weight t ≡ n → t ≡ app_term op ts → 2 * weights ts + 1 < n
twice_falls t op ts n w e = let one : weight t ≡ 1 + weights ts = weight-app t op ts (ap (λ u. u.node) e) in omega arith

pub equal_terms : (t u : Term) → t ≡ u → Equal ≡ order t u
equal_terms t u e = sym (order-itself t) ∙ ap (order t) e

pub lengths : (xs ys : List (Where Term)) → nat_cmp (length xs) (length ys) ≡ nat_cmp (length (terms xs)) (length (terms ys))
lengths xs ys = ap (λ n. nat_cmp n (length ys)) (sym (length-map xs (λ t. t.value))) ∙ ap (nat_cmp (length (terms xs))) (sym (length-map ys (λ t. t.value)))
