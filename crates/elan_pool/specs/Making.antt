-- What the docks, the sides and the seats are while a pool is made.
use Rattle.std.specs.Prelude.{◌≡◌, ℕ, ◌+◌, ◌-◌, ◌<◌, ◌≤◌, List, [], Some, slice_get, length}
use Rattle.crossbeam_deque.specs.Handles.{view, worker_view}
use Rattle.elan_pool.specs.Balance.{tally}
use Rattle.elan_pool.specs.declared.dock.Dock.{Dock}
use Rattle.elan_pool.specs.declared.side.Side.{Side}
use Rattle.elan_pool.specs.declared.seat.PoolSeat.{PoolSeat}
use Rattle.elan_pool.specs.declared.pool_name.PoolName.{Ghosts}
use Rattle.elan_pool.specs.Seats.{count_of, own_of, room_of, put_of, taken_of, missed_of}

-- a fact of each element and its place
abbrev pub Each : {A : Type 0} → (ℕ → A → Type 0) → List A → Type 0
Each F xs = (at : ℕ) (x : _) → slice_get xs at ≡ Some x → F at x

module _ {B N P : Type 0} {g : Ghosts P} where
  -- a dock of a pool of so many, the first one last, which lent this many sides, and has room for 64 spots
  abbrev pub IsNewDock : ℕ → ℕ → ℕ → Dock B N P g → Type 0
  IsNewDock count lent at d =
      (d.number + (at + 1) ≡ count) × (worker_view d.lane ≡ tally (256 - lent) [] []) × (64 ≤ d.room)

  -- the same, where as many of the docks as were done lent one side more
  abbrev pub IsLending : ℕ → ℕ → ℕ → ℕ → Dock B N P g → Type 0
  IsLending count lent done at d =
      (d.number + (at + 1) ≡ count)
      × (at + done < count → worker_view d.lane ≡ tally (256 - lent) [] [])
      × (count ≤ at + done → worker_view d.lane ≡ tally (256 - (lent + 1)) [] [])
      × (64 ≤ d.room)

  -- a side at its place, on which nothing was taken or missed
  abbrev pub IsNewSide : ℕ → Side B N P g → Type 0
  IsNewSide at s = (s.number ≡ at) × (view s.key ≡ tally 1 [] []) × (s.misses ≡ 0)

  -- a new side to each of so many deques
  abbrev pub IsNewRow : ℕ → List (Side B N P g) → Type 0
  IsNewRow count row = (length row ≡ count) × Each IsNewSide row

  -- a seat at its place, which has room for 64 spots, and has put, taken and missed nothing
  pub record IsNewSeat (deques at : ℕ) (s : PoolSeat B N P g) : Type 0 where
    pub count : count_of s ≡ deques
    pub own : own_of s ≡ at
    pub room : 64 ≤ room_of s
    pub put : put_of s ≡ []
    pub taken : (d : ℕ) → taken_of s d ≡ []
    pub missed : (d : ℕ) → missed_of s d ≡ 0
