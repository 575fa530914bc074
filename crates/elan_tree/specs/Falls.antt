-- How deep a node is: no deeper than its tree weighs.
use Rattle.std.specs.Prelude.{◌+◌, ◌≤◌, max, List, [], ◌∷◌}
use Rattle.std.proofs.Common.{arith}
use denote.Param.Weighed.{most}
use Rattle.elan_tree.specs.Tree as T
use Rattle.elan_tree.specs.Shape.{tree_of, arms_of}
use Rattle.elan_tree.specs.declared.node.Arm.{Arm}
use Rattle.elan_tree.specs.declared.node.Shape.{Shape}
use Rattle.elan_tree.specs.declared.node.Shape.TheVariants.{Item, Open, Cat, First, Then}
use Rattle.elan_tree.specs.declared.node.Node.TheDeep.{deep-Shape, deep-Arm}

-- a child weighs no more than all children
pub most_kids : {I O K : Type 0} (kids : List (T.Tree I O K)) → most (λ t. T.weight t + 1) kids ≤ T.weights (T.trees kids) + 1
most_kids [] = omega arith
most_kids (t ∷ ts) = omega (arith, most_kids ts)

-- an alternative weighs no more than all alternatives
pub most_arms : {I O K : Type 0} (arms : List (Arm I O K)) → most (λ a. deep-Arm I O K a) arms ≤ T.arms_weight (arms_of arms) + 1
most_arms [] = omega arith
most_arms (a ∷ arms) = omega (arith, most_arms arms)

-- what stands in a node is no deeper than the weight of its tree
pub falls : {I O K : Type 0} (s : Shape I O K) → max (deep-Shape I O K s) 0 ≤ T.weight (tree_of s)
falls (Item i) = omega arith
falls (Open o) = omega arith
falls (Cat kids) = omega (arith, most_kids kids.items)
falls (First one arms) = omega (arith, most_arms arms.items)
falls (Then one child k) = omega arith
