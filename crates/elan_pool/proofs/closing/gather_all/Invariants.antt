use Rattle.std.specs.Prelude.{◌≡◌, ◌+◌, ℕ, length}
use Rattle.elan_pool.specs.declared.rule.Tally.{Tally}
use Rattle.elan_pool.specs.Making.{Each}
use Rattle.elan_pool.specs.Closing.{IsAdditive, IsBack, dock_sum, row_sum}
use Rattle.elan_pool.proofs.closing.gather_all.Given as goal

-- each dock is back, and what docks and rows know amounts to the same
abbrev pub invariant-rows : goal.invariant-rows
invariant-rows g l =
    (length l.docks.items ≡ length l.fn.docks.items)
    × Each IsBack l.docks.items
    × ((f : Tally → ℕ) → IsAdditive f → dock_sum f l.docks.items + row_sum f l.rows.items ≡ dock_sum f l.fn.docks.items + row_sum f l.fn.rows.items)

abbrev pub decreases-rows : goal.decreases-rows
decreases-rows g l = length l.rows.items
