-- What a seat took of one deque, and how often it found nothing there.
use Rattle.std.specs.Prelude.{ℕ, List, [], Option, Some, None}
use Rattle.crossbeam_deque.specs.Handles.{view}
use Rattle.elan_pool.specs.declared.side.Side.{Side}
use Rattle.elan_pool.specs.declared.pool_name.PoolName.{Ghosts}

module _ {B N P : Type 0} {g : Ghosts P} where
  -- the number of the deque
  abbrev pub number_at : Option (Side B N P g) → Option ℕ
  number_at None = None
  number_at (Some s) = Some s.number

  -- the numbers of the spots that were taken
  abbrev pub taken_at : Option (Side B N P g) → List ℕ
  taken_at None = []
  taken_at (Some s) = (view s.key).taken

  -- how often nothing was found
  abbrev pub missed_at : Option (Side B N P g) → ℕ
  missed_at None = 0
  missed_at (Some s) = s.misses
