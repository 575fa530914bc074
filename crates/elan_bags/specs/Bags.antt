-- Lists of terms as multisets: what counts is how often each term stands in them.
use Rattle.std.specs.Prelude.{◌≡◌, ℕ, ◌+◌, ◌-◌, ◌*◌, ◌/◌, Option, Some, None, List}
use Rattle.elan_terms.specs.declared.tree.Term.{Term}
use Rattle.elan_terms.specs.Ascending.{Ascends}
use Rattle.elan_laws.specs.Parts.{SomeOf, times}

-- the list is left of some terms when others are taken away: it is some of the terms, and each term stands among the
-- others and in the list together as often as there
pub record IsLeft (us vs ws : List Term) : Type 0 where
  pub some : SomeOf ws us
  pub all : (t : Term) → times t us ≡ times t vs + times t ws

-- what is found is left of the terms, and ascends; nothing is found where the others are not some of the terms
abbrev pub IsMinus : List Term → List Term → Option (List Term) → Type 0
IsMinus us vs None = SomeOf vs us → ⊥
IsMinus us vs (Some ws) = IsLeft us vs ws × Ascends ws

-- the list is some of the terms: each as often as there, less as often as it stands among the others
pub record IsExcept (us vs ws : List Term) : Type 0 where
  pub some : SomeOf ws us
  pub each : (t : Term) → times t ws ≡ times t us - times t vs
  pub ascends : Ascends ws

-- each term stands in the list `many` times as often as there
abbrev pub IsManyTimes : ℕ → List Term → List Term → Type 0
IsManyTimes many us ws = (t : Term) → times t ws ≡ many * times t us

-- the list is some of the terms: each as often as it stands there `many` times
pub record IsOver (many : ℕ) (us ws : List Term) : Type 0 where
  pub some : SomeOf ws us
  pub each : (t : Term) → times t ws ≡ times t us / many
  pub ascends : Ascends ws
