-- What tells one deque from another.
use Rattle.std.specs.Prelude.{ℕ}
use Rattle.std.specs.declared.alloc.Global.{Global}

-- a deque, by the two numbers that name the rows of its spots, and the heap that they are on
abbrev pub Deque : Type 0
Deque = (ℕ × ℕ) × Global
