-- Names by their numbers, which count from 0.
use Rattle.std.specs.Prelude.{ℕ, Bool, cond, Option, List, [], ◌∷◌, ◌++◌}
use Rattle.std.specs.List.{position, list_any}
use Rattle.std.specs.Str.{bytes_eq}
use Rattle.elan_text.specs.declared.name.Name.{Name}

-- whether a name has these bytes
abbrev pub is_called : List ℕ → Name → Bool
is_called bytes name = bytes_eq bytes name.bytes

-- the number of the first name with these bytes, if there is one
unfoldable pub number_of : List ℕ → List Name → Option ℕ
number_of bytes names = position (is_called bytes) names

-- the names with one more behind them, unless it is there
abbrev pub with_name : List Name → List ℕ → List Name
with_name names bytes = cond (list_any (is_called bytes) names) names (names ++ record { bytes = bytes } ∷ [])
