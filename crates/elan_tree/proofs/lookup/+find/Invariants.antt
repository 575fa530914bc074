use Rattle.std.proofs.Common.{◌≡◌, ◌+◌, ◌*◌, drop, vec_len}
use Rattle.elan_tree.specs.Tree.{trees, weight, weights, arms_weight}
use Rattle.elan_tree.specs.Shape.{arms_of}
use Rattle.elan_tree.specs.Places.{any_first, arm_first}
use Rattle.elan_tree.specs.Marks.{at_place}
use Rattle.elan_tree.proofs.lookup.+find.Given as goal

abbrev pub decreases-find : goal.decreases-find
decreases-find g l = 2 * weight l.node.now

abbrev pub decreases-any_find : goal.decreases-any_find
decreases-any_find g l = 2 * weights (trees l.kids.now.items) + 1

abbrev pub decreases-arm_find : goal.decreases-arm_find
decreases-arm_find g l = 2 * arms_weight (arms_of l.arms.now.items) + 1

abbrev pub invariant-any_find-loop-i : goal.invariant-any_find-loop-i
invariant-any_find-loop-i g l =
    (vec_len l.kids ≡ l.i-end) × (any_first (at_place l.number) (trees (drop l.i l.kids.items)) ≡ any_first (at_place l.number) (trees l.kids.items))

abbrev pub invariant-arm_find-loop-i : goal.invariant-arm_find-loop-i
invariant-arm_find-loop-i g l =
    (vec_len l.arms ≡ l.i-end) × (arm_first (at_place l.number) (arms_of (drop l.i l.arms.items)) ≡ arm_first (at_place l.number) (arms_of l.arms.items))
