-- Which variables have a name.
use Rattle.std.specs.Prelude.{ℕ, ◌+◌, Bool, List, [], ◌∷◌, ◌++◌}
use Rattle.std.specs.Str.{bytes_eq}
use Rattle.elan_reading.specs.declared.lexeme.Variable.{Variable}
use Rattle.elan_variables.specs.Places.{place_if}

-- a variable has this name
abbrev pub is_called : List ℕ → Variable → Bool
is_called word v = bytes_eq v.name.bytes word

-- the places of all variables with this name, where the first of the list has the place n
abbrev pub places_of : List ℕ → ℕ → List Variable → List ℕ
places_of word n [] = []
places_of word n (v ∷ vs) = place_if (is_called word v) n ++ places_of word (n + 1) vs
