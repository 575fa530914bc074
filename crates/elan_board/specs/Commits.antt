-- What a commit answers and leaves, at a tree that counts its growths in 64 bits.
use Rattle.std.specs.Prelude.{◌≡◌, ℕ, ◌-◌, ◌^◌, ◌<◌}
use Rattle.elan_tree.specs.Standing.{Standing}
use Rattle.elan_tree.specs.declared.branch.Grown.{Grown}
use Rattle.elan_tree.specs.declared.branch.Grown.TheVariants.{Taken, Stale}

-- no further growth can be counted
abbrev pub IsFull : {B I K : Type 0} → Standing B I K → Type 0
IsFull s = s.grown ≡ 2 ^ 64 - 1

-- a further growth can be counted
abbrev pub HasRoom : {B I K : Type 0} → Standing B I K → Type 0
HasRoom s = s.grown < 2 ^ 64 - 1

-- nothing was done
abbrev pub IsStale : {B N : Type 0} → Grown B N → Type 0
IsStale (Taken released cut opened) = ⊥
IsStale Stale = Unit {0}
