use Rattle.std.proofs.Common.{◌≡◌, ◌+◌, ◌*◌, ◌++◌, drop, vec_len}
use Rattle.elan_tree.specs.Tree.{trees, weight, weights, arms_weight}
use Rattle.elan_tree.specs.Shape.{arms_of}
use Rattle.elan_tree.specs.Places.{all_places, arm_places}
use Rattle.elan_tree.specs.Marks.{fresh_spots}
use Rattle.elan_tree.proofs.tally.+list.Given as goal

abbrev pub decreases-list : goal.decreases-list
decreases-list g l = 2 * weight l.node.now

abbrev pub decreases-list_all : goal.decreases-list_all
decreases-list_all g l = 2 * weights (trees l.kids.now.items) + 1

abbrev pub decreases-list_arms : goal.decreases-list_arms
decreases-list_arms g l = 2 * arms_weight (arms_of l.arms.now.items) + 1

-- what is listed and what is left make all that is to be listed
abbrev pub invariant-list_all-loop-i : goal.invariant-list_all-loop-i
invariant-list_all-loop-i g l =
    (vec_len l.kids ≡ l.i-end)
    × (l.out.items ++ fresh_spots (all_places (trees (drop l.i l.kids.items))) ≡ l.fn.out.items ++ fresh_spots (all_places (trees l.kids.items)))

abbrev pub invariant-list_arms-loop-i : goal.invariant-list_arms-loop-i
invariant-list_arms-loop-i g l =
    (vec_len l.arms ≡ l.i-end)
    × (l.out.items ++ fresh_spots (arm_places (arms_of (drop l.i l.arms.items))) ≡ l.fn.out.items ++ fresh_spots (arm_places (arms_of l.arms.items)))
