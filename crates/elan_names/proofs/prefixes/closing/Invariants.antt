use Rattle.std.proofs.Common.{◌≡◌, ◌+◌, ◌≤◌, length}
use Rattle.std.specs.Prelude.{option_map}
use Rattle.elan_names.specs.Names.{closing}
use Rattle.elan_names.proofs.prefixes.closing.Given as goal

-- the holes so far and those that are left are all holes
abbrev pub invariant-holes : goal.invariant-holes
invariant-holes l = (option_map (λ n. n + l.count) (closing l.left) ≡ closing l.pieces)
    × (l.count + length l.left ≤ length l.pieces)

abbrev pub decreases-holes : goal.decreases-holes
decreases-holes l = length l.left
