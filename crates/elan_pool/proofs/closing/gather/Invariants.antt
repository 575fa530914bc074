use Rattle.std.specs.Prelude.{◌≡◌, ◌+◌, ℕ, length}
use Rattle.elan_pool.specs.declared.rule.Tally.{Tally}
use Rattle.elan_pool.specs.Making.{Each}
use Rattle.elan_pool.specs.Closing.{IsAdditive, IsBack, dock_sum, side_sum}
use Rattle.elan_pool.proofs.closing.gather.Given as goal

-- each dock is back, and what docks and sides know amounts to the same
abbrev pub invariant-sides : goal.invariant-sides
invariant-sides g l =
    (length l.docks.items ≡ length l.fn.docks.items)
    × Each IsBack l.docks.items
    × ((f : Tally → ℕ) → IsAdditive f → dock_sum f l.docks.items + side_sum f l.sides.items ≡ dock_sum f l.fn.docks.items + side_sum f l.fn.sides.items)

abbrev pub decreases-sides : goal.decreases-sides
decreases-sides g l = length l.sides.items
