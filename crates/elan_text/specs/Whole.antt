-- What it means to read a source to its end, and to write a whole piece.
use Rattle.std.specs.Prelude.{◌≡◌, ◌<◌, ◌≤◌, ℕ, Option, List, ◌++◌, length}
use Rattle.elan_text.specs.Streams.{Consumes, Appends, IsAtEnd}

-- these are all the bytes that were left
pub record Drained (before : Option (List ℕ)) (text : List ℕ) (after : Option (List ℕ)) : Type 0 where
  pub consumed : Consumes before text after
  pub at_end : IsAtEnd after

-- the source is past more bytes than this
abbrev pub PastMost : ℕ → Option (List ℕ) → Option (List ℕ) → Type 0
PastMost most before after = (text : List ℕ) × Consumes before text after × (most < length text)

-- the source is past the bytes that were taken
abbrev pub IsPast : Option (List ℕ) → Option (List ℕ) → Type 0
IsPast before after = (text : List ℕ) × Consumes before text after

-- the source is past the bytes that were taken, which are at most so many
abbrev pub PastWithin : ℕ → Option (List ℕ) → Option (List ℕ) → Type 0
PastWithin most before after = (text : List ℕ) × Consumes before text after × (length text ≤ most)

-- a prefix of the piece that is not all of it was written
abbrev pub AppendsPart : Option (List ℕ) → List ℕ → Option (List ℕ) → Type 0
AppendsPart before piece after = (prefix : List ℕ) × (rest : List ℕ) × (piece ≡ prefix ++ rest) × (0 < length rest) × Appends before prefix after
