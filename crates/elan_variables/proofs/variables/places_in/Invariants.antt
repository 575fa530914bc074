use Rattle.std.proofs.Common.{◌≡◌, ◌+◌, ◌++◌, ℕ, List, length}
use Rattle.elan_variables.specs.Places.{under}
use Rattle.elan_variables.specs.Named.{places_of}
use Rattle.elan_variables.proofs.variables.places_in.Given as goal

-- the places so far and those of the variables that are left are all places
abbrev pub invariant-variables : goal.invariant-variables
invariant-variables l =
    ((word : List ℕ) → under l.places word ++ places_of word l.place l.left ≡ places_of word 0 l.variables)
    × (l.place + length l.left ≡ length l.variables)

abbrev pub decreases-variables : goal.decreases-variables
decreases-variables l = length l.left
