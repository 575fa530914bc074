-- What docks, sides and seats know in all, while a pool is closed.
use Rattle.std.specs.Prelude.{◌≡◌, ℕ, ◌+◌, List, [], ◌∷◌, Option, Some, None, Vec}
use Rattle.std.specs.declared.alloc.Global.{Global}
use Rattle.crossbeam_deque.specs.Handles.{view, worker_view}
use Rattle.boxcar.specs.Table.{Where}
use Rattle.elan_pool.specs.Balance.{joined, weigh, numbers}
use Rattle.elan_pool.specs.declared.rule.Tally.{Tally}
use Rattle.elan_pool.specs.declared.dock.Dock.{Dock}
use Rattle.elan_pool.specs.declared.side.Side.{Side}
use Rattle.elan_pool.specs.declared.seat.PoolSeat.{PoolSeat}
use Rattle.elan_pool.specs.declared.pool_name.PoolName.{Ghosts}

-- what two passes know together amounts to what each of them knows
abbrev pub IsAdditive : (Tally → ℕ) → Type 0
IsAdditive f = (v w : Tally) → f (joined v w) ≡ f v + f w

module _ {B N P : Type 0} {g : Ghosts P} where
  -- a dock that is back is at the place of its number
  abbrev pub IsHome : ℕ → Option (Dock B N P g) → Type 0
  IsHome at None = Unit {0}
  IsHome at (Some d) = d.number ≡ at

  -- a dock is back, at the place of its number
  abbrev pub IsBack : ℕ → Option (Dock B N P g) → Type 0
  IsBack at None = ⊥
  IsBack at (Some d) = d.number ≡ at

  -- an amount of a dock, if it is back
  abbrev pub slot_sum : (Tally → ℕ) → Option (Dock B N P g) → ℕ
  slot_sum f None = 0
  slot_sum f (Some d) = f (worker_view d.lane)

  -- an amount of the docks that are back, added up
  abbrev pub dock_sum : (Tally → ℕ) → List (Option (Dock B N P g)) → ℕ
  dock_sum f [] = 0
  dock_sum f (d ∷ ds) = slot_sum f d + dock_sum f ds

  -- an amount of the sides, added up
  abbrev pub side_sum : (Tally → ℕ) → List (Side B N P g) → ℕ
  side_sum f [] = 0
  side_sum f (s ∷ ss) = f (view s.key) + side_sum f ss

  -- an amount of the sides of all rows, added up
  abbrev pub row_sum : (Tally → ℕ) → List (Vec (Side B N P g) Global) → ℕ
  row_sum f [] = 0
  row_sum f (r ∷ rs) = side_sum f r.items + row_sum f rs

  -- an amount of the docks and the sides of all seats, added up
  abbrev pub seat_sum : (Tally → ℕ) → List (PoolSeat B N P g) → ℕ
  seat_sum f [] = 0
  seat_sum f (s ∷ ss) = (f (worker_view s.dock.lane) + side_sum f s.sides.items) + seat_sum f ss

  -- these docks and rows amount to what the seats amount to
  abbrev pub AddUp : List (Option (Dock B N P g)) → List (Vec (Side B N P g) Global) → List (PoolSeat B N P g) → Type 0
  AddUp docks rows seats = (f : Tally → ℕ) → dock_sum f docks + row_sum f rows ≡ seat_sum f seats

  -- with what was left before, what these docks put is what they took with what is left now
  abbrev pub SlotDrainsTo : List (Where B) → Option (Dock B N P g) → List (Where B) → Type 0
  SlotDrainsTo old slot new =
      (h : ℕ → ℕ)
      → weigh h (numbers old) + slot_sum (λ v. weigh h v.put) slot
      ≡ slot_sum (λ v. weigh h v.taken) slot + weigh h (numbers new)

  -- what these docks put is what they took with what is left
  abbrev pub DocksDrainTo : List (Option (Dock B N P g)) → List (Where B) → Type 0
  DocksDrainTo docks left =
      (h : ℕ → ℕ)
      → dock_sum (λ v. weigh h v.put) docks ≡ dock_sum (λ v. weigh h v.taken) docks + weigh h (numbers left)

  -- what the docks and sides of these seats put is what they took with what is left
  abbrev pub SeatsDrainTo : List (PoolSeat B N P g) → List (Where B) → Type 0
  SeatsDrainTo seats left =
      (h : ℕ → ℕ)
      → seat_sum (λ v. weigh h v.put) seats ≡ seat_sum (λ v. weigh h v.taken) seats + weigh h (numbers left)
