-- What a seat of the pool has put, taken and missed, by deque.
use Rattle.std.specs.Prelude.{◌≡◌, ℕ, zero, suc, List, [], ◌∷◌, ◌++◌, ◌==◌, if◌then◌else◌, slice_get, length}
use Rattle.crossbeam_deque.specs.Handles.{worker_view}
use Rattle.elan_pool.specs.declared.seat.PoolSeat.{PoolSeat}
use Rattle.elan_pool.specs.declared.pool_name.PoolName.{Ghosts}
use Rattle.elan_pool.specs.Sides.{taken_at, missed_at}

module _ {B N P : Type 0} {g : Ghosts P} where
  -- how many deques there are
  abbrev pub count_of : PoolSeat B N P g → ℕ
  count_of s = length s.sides.items

  -- which deque is its own
  abbrev pub own_of : PoolSeat B N P g → ℕ
  own_of s = s.dock.number

  -- how many slots its own deque had when it was made
  abbrev pub room_of : PoolSeat B N P g → ℕ
  room_of s = s.dock.room

  -- none of these three changes
  pub record IsSameSeat (old new : PoolSeat B N P g) : Type 0 where
    pub count : count_of new ≡ count_of old
    pub own : own_of new ≡ own_of old
    pub room : room_of new ≡ room_of old

  -- the numbers of the spots that it put into its own deque
  abbrev pub put_of : PoolSeat B N P g → List ℕ
  put_of s = (worker_view s.dock.lane).put

  -- the numbers of the spots that it took from a deque
  abbrev pub taken_of : PoolSeat B N P g → ℕ → List ℕ
  taken_of s d = if d == s.dock.number then (worker_view s.dock.lane).taken else taken_at (slice_get s.sides.items d)

  -- how often a deque gave it nothing
  abbrev pub missed_of : PoolSeat B N P g → ℕ → ℕ
  missed_of s d = missed_at (slice_get s.sides.items d)

  -- what it took from the first deques, up to a number
  abbrev pub taken_below : PoolSeat B N P g → ℕ → List ℕ
  taken_below s zero = []
  taken_below s (suc d) = taken_below s d ++ taken_of s d

  -- what it took from all deques
  abbrev pub taken_by : PoolSeat B N P g → List ℕ
  taken_by s = taken_below s (count_of s)

  -- what all seats put
  abbrev pub all_put : List (PoolSeat B N P g) → List ℕ
  all_put [] = []
  all_put (s ∷ ss) = put_of s ++ all_put ss

  -- what all seats took
  abbrev pub all_taken : List (PoolSeat B N P g) → List ℕ
  all_taken [] = []
  all_taken (s ∷ ss) = taken_by s ++ all_taken ss
