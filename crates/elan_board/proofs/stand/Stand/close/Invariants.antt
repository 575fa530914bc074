use Rattle.std.specs.Prelude.{◌≡◌, ◌+◌, length, sum, map}
use Rattle.elan_board.specs.Seats.{taken_by}
use Rattle.elan_board.proofs.stand.Stand.close.Given as goal

-- the shares that are merged and those that are left have all parts and all that was taken
abbrev pub invariant-seats : goal.invariant-seats
invariant-seats g l =
    (l.all.parts + length l.seats.items ≡ g.L.Ledger.parts)
    × (l.all.amount + sum (map taken_by l.seats.items) ≡ sum (map taken_by l.fn.seats.items))

abbrev pub decreases-seats : goal.decreases-seats
decreases-seats g l = length l.seats.items
