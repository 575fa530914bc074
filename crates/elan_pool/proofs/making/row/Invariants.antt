use Rattle.std.specs.Prelude.{◌≡◌, length}
use Rattle.elan_pool.specs.Making.{Each, IsLending, IsNewSide}
use Rattle.elan_pool.proofs.making.row.Given as goal

-- so many of the docks lent a side more, from the last one on, and the sides stand in the row
abbrev pub invariant-sides : goal.invariant-sides
invariant-sides g l =
    (length l.docks.items ≡ length l.fn.docks.items)
    × (l.count ≡ length l.fn.docks.items)
    × (length l.row.items ≡ l.number)
    × Each (IsLending (length l.fn.docks.items) l.lent l.number) l.docks.items
    × Each IsNewSide l.row.items
