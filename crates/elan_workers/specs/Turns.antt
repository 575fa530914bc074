-- What one turn of a worker does to its seat.
use Rattle.std.specs.Prelude.{◌≡◌, ◌+◌, ◌≤◌}
use Rattle.elan_board.specs.declared.seat.Seat.{Seat}
use Rattle.elan_board.specs.Seats.{taken_by, look_of}

-- at most one growth is counted, and no word is loaded
pub record Counts {L : Type 0} (old new : Seat L) : Type 0 where
  pub taken : taken_by new ≤ taken_by old + 1
  pub released_loads : (look_of new).released_loads ≡ (look_of old).released_loads
  pub cuts_loads : (look_of new).cuts_loads ≡ (look_of old).cuts_loads

-- at most one growth is counted, and each of the two words is loaded at most once
pub record OneTurn {L : Type 0} (old new : Seat L) : Type 0 where
  pub taken : taken_by new ≤ taken_by old + 1
  pub released_loads : (look_of new).released_loads ≤ (look_of old).released_loads + 1
  pub cuts_loads : (look_of new).cuts_loads ≤ (look_of old).cuts_loads + 1
