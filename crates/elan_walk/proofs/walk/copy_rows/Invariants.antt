use Rattle.std.proofs.Common.{◌≡◌, take}
use Rattle.elan_walk.proofs.walk.copy_rows.Given as goal

abbrev pub invariant-loop-row : goal.invariant-loop-row
invariant-loop-row g l = l.copy ≡ take l.row-index l.rows
