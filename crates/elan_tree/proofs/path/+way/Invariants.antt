use Rattle.std.proofs.Common.{◌≡◌, ◌+◌, ◌*◌, drop, vec_len}
use Rattle.elan_tree.specs.Tree.{trees, weight, weights, arms_weight}
use Rattle.elan_tree.specs.Shape.{arms_of}
use Rattle.elan_tree.specs.Paths.{any_path, arm_path}
use Rattle.elan_tree.specs.Marks.{at_place}
use Rattle.elan_tree.proofs.path.+way.Given as goal

abbrev pub decreases-way : goal.decreases-way
decreases-way g l = 2 * weight l.node.now

abbrev pub decreases-any_way : goal.decreases-any_way
decreases-any_way g l = 2 * weights (trees l.kids.now.items) + 1

abbrev pub decreases-arm_way : goal.decreases-arm_way
decreases-arm_way g l = 2 * arms_weight (arms_of l.arms.now.items) + 1

-- the way leads through none of the children so far
abbrev pub invariant-any_way-loop-i : goal.invariant-any_way-loop-i
invariant-any_way-loop-i g l =
    (vec_len l.kids ≡ l.i-end) × (any_path (at_place l.number) l.i (trees (drop l.i l.kids.items)) ≡ any_path (at_place l.number) 0 (trees l.kids.items))

abbrev pub invariant-arm_way-loop-i : goal.invariant-arm_way-loop-i
invariant-arm_way-loop-i g l =
    (vec_len l.arms ≡ l.i-end) × (arm_path (at_place l.number) l.i (arms_of (drop l.i l.arms.items)) ≡ arm_path (at_place l.number) 0 (arms_of l.arms.items))
