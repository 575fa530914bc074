use Rattle.std.specs.Prelude.{◌≡◌, ◌+◌, length, All}
use Rattle.elan_pool.specs.Making.{Each, IsNewDock, IsNewRow, IsNewSeat}
use Rattle.elan_pool.proofs.making.seats_of.Given as goal

-- a seat for each dock that is gone, and a row for each that is left
abbrev pub invariant-docks : goal.invariant-docks
invariant-docks g l =
    (length l.seats.items + length l.docks.items ≡ length l.fn.docks.items)
    × (length l.rows.items ≡ length l.docks.items)
    × Each (IsNewDock (length l.fn.docks.items) (length l.fn.docks.items)) l.docks.items
    × All (λ r. IsNewRow (length l.fn.docks.items) r.items) l.rows.items
    × Each (IsNewSeat (length l.fn.docks.items)) l.seats.items

abbrev pub decreases-docks : goal.decreases-docks
decreases-docks g l = length l.docks.items
