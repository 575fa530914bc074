use Rattle.std.proofs.Common.{◌≡◌, ◌+◌, ◌*◌, drop, vec_len}
use Rattle.elan_tree.specs.Tree.{trees, weight, weights, arms_weight}
use Rattle.elan_tree.specs.Shape.{arms_of}
use Rattle.elan_tree.specs.Places.{any_place, arm_place}
use Rattle.elan_tree.proofs.lookup.+leftmost.Given as goal

abbrev pub decreases-leftmost : goal.decreases-leftmost
decreases-leftmost g l = 2 * weight l.node.now

abbrev pub decreases-any_leftmost : goal.decreases-any_leftmost
decreases-any_leftmost g l = 2 * weights (trees l.kids.now.items) + 1

abbrev pub decreases-arm_leftmost : goal.decreases-arm_leftmost
decreases-arm_leftmost g l = 2 * arms_weight (arms_of l.arms.now.items) + 1

abbrev pub invariant-any_leftmost-loop-i : goal.invariant-any_leftmost-loop-i
invariant-any_leftmost-loop-i g l =
    (vec_len l.kids ≡ l.i-end) × (any_place (trees (drop l.i l.kids.items)) ≡ any_place (trees l.kids.items))

abbrev pub invariant-arm_leftmost-loop-i : goal.invariant-arm_leftmost-loop-i
invariant-arm_leftmost-loop-i g l =
    (vec_len l.arms ≡ l.i-end) × (arm_place (arms_of (drop l.i l.arms.items)) ≡ arm_place (arms_of l.arms.items))
