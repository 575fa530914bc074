-- Each argument of a shared term weighs less than the whole.
use Rattle.std.specs.Prelude.{◌+◌, ◌≤◌, max, refl, List, [], ◌∷◌}
use Rattle.std.proofs.Common.{arith}
use denote.Param.Weighed.{most}
use Rattle.elan_terms.specs.declared.tree.Term.{Term}
use Rattle.elan_terms.specs.Trees.{app_term}
use Rattle.elan_terms.specs.Weight.{weight, weights}
use Rattle.elan_terms.proofs.WeightLemmas.{weight-app}
use Rattle.elan_shared.specs.declared.tree.SharedNode.{SharedNode}
use Rattle.elan_shared.specs.declared.tree.SharedNode.TheVariants.{Int, App}
use Rattle.elan_shared.specs.declared.tree.SharedTerm.TheDeep.{deep-SharedNode}
use Rattle.elan_shared.specs.Shown.{shown}

-- no term of a list weighs more than the list
most_le-weights : (ts : List Term) → most (λ t. weight t + 1) ts ≤ weights ts
most_le-weights [] = omega arith
most_le-weights (t ∷ ts) = omega (arith, most_le-weights ts)

-- no argument is heavier than the node
pub deep_le-weight : (n : SharedNode) → max (deep-SharedNode n) 0 ≤ weight (shown n)
deep_le-weight (Int z) = omega arith
deep_le-weight (App a) = omega (arith, most_le-weights a.value.args, weight-app (app_term a.value.op a.value.args) a.value.op a.value.args refl)
