use Rattle.std.specs.Prelude.{◌≡◌, length, All}
use Rattle.elan_pool.specs.Making.{Each, IsNewDock, IsNewRow}
use Rattle.elan_pool.proofs.making.rows.Given as goal

-- each dock lent a side to each row
abbrev pub invariant-rows : goal.invariant-rows
invariant-rows g l =
    (length l.docks.items ≡ length l.fn.docks.items)
    × (l.count ≡ length l.fn.docks.items)
    × (length l.rows.items ≡ l.lent)
    × Each (IsNewDock (length l.fn.docks.items) l.lent) l.docks.items
    × All (λ r. IsNewRow (length l.fn.docks.items) r.items) l.rows.items
