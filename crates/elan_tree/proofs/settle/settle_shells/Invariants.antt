use Rattle.std.proofs.Common.{◌≡◌, length, drop, take, vec_len}
use Rattle.elan_tree.specs.Tree.{trees}
use Rattle.elan_tree.specs.Normal.{Flats, AllWait}
use Rattle.elan_tree.specs.Settling.{Fits, SettlesAll}
use Rattle.elan_tree.proofs.settle.settle_shells.Given as goal

abbrev pub invariant-loop-i : goal.invariant-loop-i
invariant-loop-i g l =
    (length l.kids.items ≡ length l.fn.kids.items)
    × (vec_len l.kids ≡ l.i-end)
    × SettlesAll g.B.Branch.sense (g.B.Branch.sense.kin l.root) (trees l.fn.kids.items) (trees l.kids.items)
    × Fits g.B.Branch.sense (g.B.Branch.sense.kin l.root) (trees (drop l.i l.kids.items))
    × AllWait (trees (drop l.i l.kids.items))
    × Flats (trees (take l.i l.kids.items))
