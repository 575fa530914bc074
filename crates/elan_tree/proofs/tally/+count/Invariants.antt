use Rattle.std.proofs.Common.{◌≡◌, ◌+◌, ◌*◌, length, drop, vec_len}
use Rattle.elan_tree.specs.Tree.{trees, weight, weights, arms_weight}
use Rattle.elan_tree.specs.Shape.{arms_of}
use Rattle.elan_tree.specs.Places.{all_places, arm_places}
use Rattle.elan_tree.proofs.tally.+count.Given as goal

abbrev pub decreases-count : goal.decreases-count
decreases-count g l = 2 * weight l.node.now

abbrev pub decreases-count_all : goal.decreases-count_all
decreases-count_all g l = 2 * weights (trees l.kids.now.items) + 1

abbrev pub decreases-count_arms : goal.decreases-count_arms
decreases-count_arms g l = 2 * arms_weight (arms_of l.arms.now.items) + 1

-- the sum so far and the places that are left make all places
abbrev pub invariant-count_all-loop-i : goal.invariant-count_all-loop-i
invariant-count_all-loop-i g l =
    (vec_len l.kids ≡ l.i-end) × (l.sum + length (all_places (trees (drop l.i l.kids.items))) ≡ length (all_places (trees l.kids.items)))

abbrev pub invariant-count_arms-loop-i : goal.invariant-count_arms-loop-i
invariant-count_arms-loop-i g l =
    (vec_len l.arms ≡ l.i-end) × (l.sum + length (arm_places (arms_of (drop l.i l.arms.items))) ≡ length (arm_places (arms_of l.arms.items)))
