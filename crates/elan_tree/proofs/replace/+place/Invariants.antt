use Rattle.std.proofs.Common.{◌≡◌, ◌+◌, ◌*◌, take, vec_len, false}
use Rattle.elan_tree.specs.Tree.{trees, weight, weights, arms_weight}
use Rattle.elan_tree.specs.Shape.{arms_of}
use Rattle.elan_tree.specs.Places.{any_has, arm_has}
use Rattle.elan_tree.specs.Marks.{at_place}
use Rattle.elan_tree.proofs.replace.+place.Given as goal

abbrev pub decreases-place : goal.decreases-place
decreases-place g l = 2 * weight l.node.now

abbrev pub decreases-place_all : goal.decreases-place_all
decreases-place_all g l = 2 * weights (trees l.kids.now.items) + 1

abbrev pub decreases-place_arms : goal.decreases-place_arms
decreases-place_arms g l = 2 * arms_weight (arms_of l.arms.now.items) + 1

abbrev pub invariant-place_all-loop-i : goal.invariant-place_all-loop-i
invariant-place_all-loop-i g l =
    (vec_len l.kids ≡ l.i-end) × (l.kids.items ≡ l.fn.kids.items) × (l.new ≡ l.fn.new) × (any_has (at_place l.number) (trees (take l.i l.kids.items)) ≡ false)

abbrev pub invariant-place_arms-loop-i : goal.invariant-place_arms-loop-i
invariant-place_arms-loop-i g l =
    (vec_len l.arms ≡ l.i-end) × (l.arms.items ≡ l.fn.arms.items) × (l.new ≡ l.fn.new) × (arm_has (at_place l.number) (arms_of (take l.i l.arms.items)) ≡ false)
