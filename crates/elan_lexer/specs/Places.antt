-- A line feed ends a line. Lines and columns count from 1, and a column counts bytes.
use Rattle.std.specs.Prelude.{ℕ, ◌+◌, ◌==◌, cond, List, [], ◌∷◌, length}
use Rattle.elan_text.specs.declared.refusal.Place.{Place}
use Rattle.elan_lexer.specs.declared.places.Spot.{Spot}

-- the place of a text's first byte
abbrev pub first_place : Place
first_place = record { line = 1; column = 1 }

-- the place after a byte that stands at this place
abbrev pub next_place : Place → ℕ → Place
next_place at b =
    cond (b == 10) (record { line = at.line + 1; column = 1 }) (record { line = at.line; column = at.column + 1 })

-- the place after these bytes, the first of which stands at this place
abbrev pub place_after : Place → List ℕ → Place
place_after at [] = at
place_after at (b ∷ bs) = place_after (next_place at b) bs

-- the place after the last byte of a text
abbrev pub end_place : List ℕ → Place
end_place bytes = place_after first_place bytes

-- where reading begins
abbrev pub start : Spot
start = record { offset = 0; at = first_place }

-- how far a text was read after these bytes
abbrev pub moved : Spot → List ℕ → Spot
moved s text = record { offset = s.offset + length text; at = place_after s.at text }
