-- How many terms each place of a variable may take.
use Rattle.std.specs.Prelude.{◌≡◌, ℕ, ◌+◌, ◌*◌, ◌≤◌, ◌<◌, Option, Some, None}
use Rattle.elan_shares.specs.declared.share.Places.{Places}

-- Where so many of `count` terms are taken, enough are left: at least one for each place of another variable, exactly one
-- for each other pattern, and no other where no other variable has a place.
abbrev pub Leaves : Places → ℕ → ℕ → Type 0
Leaves places count taken = (taken + places.free + places.others ≤ count) × (places.free ≡ 0 → taken + places.others ≡ count)

-- enough are left where each place of the sought variable takes so many
abbrev pub Fits : Places → ℕ → ℕ → Type 0
Fits places count many = Leaves places count (places.sought * many)

-- a number above `past` that fits, and none that is less is so
pub record IsNext (places : Places) (count past many : ℕ) : Type 0 where
  pub above : past < many
  pub fits : Fits places count many
  pub least : (other : ℕ) → past < other → Fits places count other → many ≤ other

-- what is found is the least number above `past` that fits; where nothing is found none is so
abbrev pub FindsNext : Places → ℕ → ℕ → Option ℕ → Type 0
FindsNext places count past None = (many : ℕ) → past < many → Fits places count many → ⊥
FindsNext places count past (Some many) = IsNext places count past many
