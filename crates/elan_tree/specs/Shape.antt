-- A node of the code as a tree.
use Rattle.std.specs.Prelude.{List, [], ◌∷◌}
use Rattle.elan_tree.specs.Tree as T
use Rattle.elan_tree.specs.declared.node.Arm.{Arm}
use Rattle.elan_tree.specs.declared.node.Shape.{Shape}
use Rattle.elan_tree.specs.declared.node.Shape.TheVariants.{Item, Open, Cat, First, Then}

-- the alternatives of a node as alternatives of a tree
abbrev pub arms_of : {I O K : Type 0} → List (Arm I O K) → T.Arms I O K
arms_of [] = T.no_arm
arms_of (a ∷ arms) = T.arm a.node.value a.then (arms_of arms)

-- one level of a node as a tree
abbrev pub tree_of : {I O K : Type 0} → Shape I O K → T.Tree I O K
tree_of (Item i) = T.Item i
tree_of (Open o) = T.Open o
tree_of (Cat kids) = T.Cat (T.trees kids.items)
tree_of (First one arms) = T.First one (arms_of arms.items)
tree_of (Then one child k) = T.Then one child.value k
