use Rattle.std.proofs.Common.{◌-◌, ◌≤◌, length}
use Rattle.elan_tree.specs.Moves.{Star, Step}
use Rattle.elan_tree.specs.Normal.{Normal, NoGrow}
use Rattle.elan_tree.specs.Settling.{Makes}
use Rattle.elan_tree.proofs.advance.release.Given as goal

abbrev pub invariant-loop-released : goal.invariant-loop-released
invariant-loop-released g l =
    Normal l.node
    × (length l.released.items ≤ l.limit)
    × Star (Step NoGrow (Makes g.B.Branch.sense (g.B.Branch.sense.kin l.root)) l.limit) record { released = l.fn.released.items; tree = l.fn.node } record { released = l.released.items; tree = l.node }

abbrev pub decreases-loop-released : goal.decreases-loop-released
decreases-loop-released g l = l.limit - length l.released.items
