use Rattle.std.proofs.Common.{◌≡◌, length}
use Rattle.elan_cycles.specs.Marks as spec
use Rattle.elan_cycles.proofs.ranks.never_rises.Given as goal

-- it is as for those that are left
abbrev pub invariant-edges : goal.invariant-edges
invariant-edges l = spec.never_rises l.ranks l.left ≡ spec.never_rises l.ranks l.edges

abbrev pub decreases-edges : goal.decreases-edges
decreases-edges l = length l.left
