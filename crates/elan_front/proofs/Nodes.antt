-- Which node a row is of.
use Rattle.std.proofs.Common.{◌≡◌, ap, ◌∙◌, ℕ, List}
use Rattle.elan_terms.specs.declared.tree.OpId.{OpId}
use Rattle.elan_terms.specs.declared.tree.Term.{Term}
use Rattle.elan_terms.specs.Trees.{app_term}

-- equal operators over equal arguments
pub same_node : (t : Term) (f g : OpId) (ts us : List Term) → t ≡ app_term f ts → f.0 ≡ g.0 → ts ≡ us → t ≡ app_term g us
same_node t f g ts us is op args = is ∙ ap (λ (n : ℕ). app_term (record { 0 = n }) ts) op ∙ ap (app_term g) args
