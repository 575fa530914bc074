use Rattle.std.specs.Prelude.{◌≡◌, ℕ, length}
use Rattle.elan_pool.specs.declared.rule.Tally.{Tally}
use Rattle.elan_pool.specs.Making.{Each}
use Rattle.elan_pool.specs.Closing.{IsHome, dock_sum}
use Rattle.elan_pool.proofs.closing.places.Given as goal

-- so many places, and no dock
abbrev pub invariant-places : goal.invariant-places
invariant-places g l = (length l.docks.items ≡ l._place) × Each IsHome l.docks.items × ((f : Tally → ℕ) → dock_sum f l.docks.items ≡ 0)
