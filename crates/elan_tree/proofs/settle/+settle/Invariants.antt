use Rattle.std.proofs.Common.{◌≡◌, ◌+◌, ◌*◌, length, drop, take, vec_len}
use Rattle.elan_tree.specs.Tree.{trees, weight, weights, arms_weight}
use Rattle.elan_tree.specs.Shape.{arms_of}
use Rattle.elan_tree.specs.Normal.{Normals, NormalArms}
use Rattle.elan_tree.specs.Settling.{Fits, FitArms, SettlesAll, SettlesArms}
use Rattle.elan_tree.proofs.settle.+settle.Given as goal

abbrev pub decreases-settle : goal.decreases-settle
decreases-settle g l = 3 * weight l.node.now + 2

abbrev pub decreases-settle_below : goal.decreases-settle_below
decreases-settle_below g l = 3 * weight l.node.now + 1

abbrev pub decreases-settle_all : goal.decreases-settle_all
decreases-settle_all g l = 3 * weights (trees l.kids.now.items) + 3

abbrev pub decreases-settle_arms : goal.decreases-settle_arms
decreases-settle_arms g l = 3 * arms_weight (arms_of l.arms.now.items) + 3

abbrev pub invariant-settle_all-loop-i : goal.invariant-settle_all-loop-i
invariant-settle_all-loop-i g l =
    (length l.kids.items ≡ length l.fn.kids.items)
    × (vec_len l.kids ≡ l.i-end)
    × SettlesAll g.B.Branch.sense (g.B.Branch.sense.kin l.root) (trees l.fn.kids.items) (trees l.kids.items)
    × Fits g.B.Branch.sense (g.B.Branch.sense.kin l.root) (trees (drop l.i l.kids.items))
    × (drop l.i l.kids.items ≡ drop l.i l.fn.kids.items)
    × Normals (trees (take l.i l.kids.items))

abbrev pub invariant-settle_arms-loop-i : goal.invariant-settle_arms-loop-i
invariant-settle_arms-loop-i g l =
    (length l.arms.items ≡ length l.fn.arms.items)
    × (vec_len l.arms ≡ l.i-end)
    × SettlesArms g.B.Branch.sense (g.B.Branch.sense.kin l.root) (arms_of l.fn.arms.items) (arms_of l.arms.items)
    × FitArms g.B.Branch.sense (g.B.Branch.sense.kin l.root) (arms_of (drop l.i l.arms.items))
    × (drop l.i l.arms.items ≡ drop l.i l.fn.arms.items)
    × NormalArms (arms_of (take l.i l.arms.items))
