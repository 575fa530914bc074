-- Where names stand in a list.
use Rattle.std.specs.Prelude.{ℕ, Bool, true, false, Option, Some, None, List, [], ◌∷◌, if◌then◌else◌}
use Rattle.std.specs.Str.{bytes_eq}
use Rattle.indexmap.specs.IndexMap.{get_by}
use Rattle.elan_variables.specs.declared.places.Places.{Places as Kept}

-- a place, where a test passed
abbrev pub place_if : Bool → ℕ → List ℕ
place_if true n = n ∷ []
place_if false n = []

-- the places that were found, or none
abbrev pub or_none : Option (List ℕ) → List ℕ
or_none None = []
or_none (Some places) = places

-- the places of a word
abbrev pub under : Kept → List ℕ → List ℕ
under kept word = or_none (get_by (λ k. bytes_eq word k.items) kept.map)

-- the places of a word that is asked for, once these are kept for a name instead of others
abbrev pub put : List ℕ → List ℕ → List ℕ → List ℕ → List ℕ
put name places word others = if bytes_eq name word then places else others
