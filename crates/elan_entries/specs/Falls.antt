-- Each argument of a shared pattern weighs less than the whole.
use Rattle.std.specs.Prelude.{◌+◌, ◌≤◌, max, refl, List, [], ◌∷◌}
use Rattle.std.proofs.Common.{arith}
use denote.Param.Weighed.{most}
use Rattle.elan_terms.specs.declared.tree.Pattern.{Pattern}
use Rattle.elan_terms.specs.Weight.{pattern_weight, pattern_weights}
use Rattle.elan_terms.proofs.WeightLemmas.{pattern_weight-app}
use Rattle.elan_entries.specs.declared.shared.TreeNode.{TreeNode}
use Rattle.elan_entries.specs.declared.shared.TreeNode.TheVariants.{Var, Int, App}
use Rattle.elan_entries.specs.declared.shared.Tree.TheDeep.{deep-TreeNode}
use Rattle.elan_program.specs.Extension.{app_pattern}
use Rattle.elan_entries.specs.Trees.{shown}

-- no pattern of a list weighs more than the list
most_le-weights : (ts : List Pattern) → most (λ t. pattern_weight t + 1) ts ≤ pattern_weights ts
most_le-weights [] = omega arith
most_le-weights (t ∷ ts) = omega (arith, most_le-weights ts)

-- no argument is heavier than the node
pub deep_le-weight : (n : TreeNode) → max (deep-TreeNode n) 0 ≤ pattern_weight (shown n)
deep_le-weight (Var x s) = omega arith
deep_le-weight (Int z) = omega arith
deep_le-weight (App a) = omega (arith, most_le-weights a.value.args, pattern_weight-app (app_pattern a.value.op a.value.args) a.value.op a.value.args refl)
