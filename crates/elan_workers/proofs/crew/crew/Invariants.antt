use Rattle.std.specs.Prelude.{◌≡◌, ◌+◌, length}
use Rattle.elan_workers.proofs.crew.crew.Given as goal

-- each seat is left or has its worker
abbrev pub invariant-seats : goal.invariant-seats
invariant-seats g l = length l.workers.items + length l.seats.items ≡ length l.fn.seats.items

abbrev pub decreases-seats : goal.decreases-seats
decreases-seats g l = length l.seats.items
