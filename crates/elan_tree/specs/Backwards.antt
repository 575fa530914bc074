-- A path as the code builds it.
use Rattle.std.specs.Prelude.{ℕ, List, Option, Some, None, reverse}
use Rattle.std.specs.declared.vec.Vec.{Vec}
use Rattle.std.specs.declared.alloc.Global.{Global}

-- the path whose last step is the first of the vector
abbrev pub backwards : Option (Vec ℕ Global) → Option (List ℕ)
backwards None = None
backwards (Some steps) = Some (reverse steps.items)
