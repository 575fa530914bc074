use Rattle.std.specs.Prelude.{◌≡◌, ◌+◌, ℕ, length}
use Rattle.elan_pool.specs.declared.rule.Tally.{Tally}
use Rattle.elan_pool.specs.Making.{Each}
use Rattle.elan_pool.specs.Closing.{IsHome, dock_sum, row_sum, seat_sum}
use Rattle.elan_pool.proofs.closing.parted.Given as goal

-- a dock is back for each seat that is gone, and what all know amounts to the same
abbrev pub invariant-seats : goal.invariant-seats
invariant-seats g l =
    (length l.docks.items ≡ length g.P.PoolName.deques)
    × Each IsHome l.docks.items
    × (dock_sum (λ v. 1) l.docks.items + length l.seats.items ≡ length l.fn.seats.items)
    × ((f : Tally → ℕ) → (dock_sum f l.docks.items + row_sum f l.rows.items) + seat_sum f l.seats.items ≡ seat_sum f l.fn.seats.items)

abbrev pub decreases-seats : goal.decreases-seats
decreases-seats g l = length l.seats.items
