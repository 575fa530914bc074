-- What a walk gives, and what it keeps.
use Rattle.std.specs.Prelude.{◌≡◌, ℕ, Option, Some, None, List, [], ◌∷◌, length, option_map}
use Rattle.boxcar.specs.Table.{Where}
use Rattle.elan_terms.specs.declared.tree.Term.{Term}
use Rattle.elan_table.specs.Rows.{terms}

-- what is given and, behind it, what is to come are what was to come; nothing is given exactly where nothing was to come
abbrev pub GivesOne : List (List Term) → Option (List (Where Term)) → List (List Term) → Type 0
GivesOne before None later = (before ≡ []) × (later ≡ [])
GivesOne before (Some m) later = before ≡ terms m ∷ later

-- the terms of the last match that was given, where one was
abbrev pub last_terms : Option (List (Where Term)) → Option (List Term)
last_terms = option_map terms

-- the last match that was given, if one was, has so many values
abbrev pub IsLong : ℕ → Option (List (Where Term)) → Type 0
IsLong many None = Unit {0}
IsLong many (Some last) = length last ≡ many
