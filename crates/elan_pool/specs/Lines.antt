-- What ends in memory have taken and missed, by deque.
use Rattle.std.specs.Prelude.{◌≡◌, ℕ, List, [], Option, Some, None, slice_get, length}
use Rattle.elan_tree.specs.declared.name.Name.{Ghosts}
use Rattle.elan_pool.specs.declared.memory.Line.{Line}
use Rattle.elan_pool.specs.declared.memory.MemoryEnds.{MemoryEnds}

module _ {B N : Type 0} {n : Ghosts N} where
  -- nothing was taken, and nothing missed
  abbrev pub IsNewLine : Line B N n → Type 0
  IsNewLine l = (l.taken.items ≡ []) × (l.misses ≡ 0)

  -- the numbers of the spots that were taken from a line
  abbrev pub line_taken_at : Option (Line B N n) → List ℕ
  line_taken_at None = []
  line_taken_at (Some l) = l.taken.items

  -- how often a line gave nothing
  abbrev pub line_missed_at : Option (Line B N n) → ℕ
  line_missed_at None = 0
  line_missed_at (Some l) = l.misses

  -- how many deques there are
  abbrev pub line_count_of : MemoryEnds B N n → ℕ
  line_count_of e = length e.lines.items

  -- which deque is the own one
  abbrev pub line_own_of : MemoryEnds B N n → ℕ
  line_own_of e = e.own

  -- the numbers of the spots that were taken from a deque
  abbrev pub line_taken_of : MemoryEnds B N n → ℕ → List ℕ
  line_taken_of e d = line_taken_at (slice_get e.lines.items d)

  -- how often a deque gave nothing
  abbrev pub line_missed_of : MemoryEnds B N n → ℕ → ℕ
  line_missed_of e d = line_missed_at (slice_get e.lines.items d)
