use Rattle.std.proofs.Common.{◌≡◌, ◌+◌, ◌*◌, length, take, drop, vec_len}
use Rattle.elan_tree.specs.Tree.{trees, weight, weights, arms_weight}
use Rattle.elan_tree.specs.Shape.{arms_of}
use Rattle.elan_tree.specs.Marks.{all_unmarked, arms_unmarked}
use Rattle.elan_tree.proofs.replace.+unmark.Given as goal

abbrev pub decreases-unmark : goal.decreases-unmark
decreases-unmark g l = 2 * weight l.node.now

abbrev pub decreases-unmark_all : goal.decreases-unmark_all
decreases-unmark_all g l = 2 * weights (trees l.kids.now.items) + 1

abbrev pub decreases-unmark_arms : goal.decreases-unmark_arms
decreases-unmark_arms g l = 2 * arms_weight (arms_of l.arms.now.items) + 1

abbrev pub invariant-unmark_all-loop-i : goal.invariant-unmark_all-loop-i
invariant-unmark_all-loop-i g l =
    (vec_len l.kids ≡ l.i-end) × (length l.kids.items ≡ length l.fn.kids.items) × (drop l.i l.kids.items ≡ drop l.i l.fn.kids.items)
    × (trees (take l.i l.kids.items) ≡ all_unmarked (trees (take l.i l.fn.kids.items)))

abbrev pub invariant-unmark_arms-loop-i : goal.invariant-unmark_arms-loop-i
invariant-unmark_arms-loop-i g l =
    (vec_len l.arms ≡ l.i-end) × (length l.arms.items ≡ length l.fn.arms.items) × (drop l.i l.arms.items ≡ drop l.i l.fn.arms.items)
    × (arms_of (take l.i l.arms.items) ≡ arms_unmarked (arms_of (take l.i l.fn.arms.items)))
