-- The tokens of a text by their spans: they stand in order, each is the longest at its place, and everything between and around them is white space or whole comments.
use Rattle.std.specs.Prelude.{◌≡◌, ◌≤◌, ℕ, List, [], ◌∷◌, ◌++◌, take, drop, slice_range}
use Rattle.elan_lexer.specs.declared.token.Token.{Token}
use Rattle.elan_lexer.specs.Pieces.{IsBlank, IsToken}
use Rattle.elan_lexer.specs.Places.{first_place, place_after}
use Rattle.elan_lexer.specs.Text.{IsInside, token_text}

-- the bytes are these, each a byte of white space or a whole comment, and then the rest
abbrev pub Blanks : List (List ℕ) → List ℕ → List ℕ → Type 0
Blanks [] bytes rest = bytes ≡ rest
Blanks (b ∷ bs) bytes rest = (after : List ℕ) × IsBlank b after × Blanks bs after rest × (bytes ≡ b ++ after)

-- these bytes are white space and whole comments, given what comes after them
abbrev pub IsGap : List ℕ → List ℕ → Type 0
IsGap gap rest = (bs : List (List ℕ)) × Blanks bs (gap ++ rest) rest

-- the bytes of a token are the longest token of its kind at their place, and its place is theirs
pub record IsSpan (bytes : List ℕ) (token : Token) : Type 0 where
  pub inside : IsInside bytes token
  pub longest : IsToken token.kind (token_text bytes token) (drop token.end bytes)
  pub placed : token.at ≡ place_after first_place (take token.start bytes)

-- what stands from so many bytes on: these spans in order, with gaps before, between and after them
abbrev pub SpansFrom : ℕ → List ℕ → List Token → Type 0
SpansFrom from bytes [] = IsGap (drop from bytes) []
SpansFrom from bytes (t ∷ ts) =
    (from ≤ t.start) × IsGap (slice_range bytes from t.start) (drop t.start bytes) × IsSpan bytes t
    × SpansFrom t.end bytes ts

-- the text is these spans and the gaps around them
abbrev pub HasSpans : List ℕ → List Token → Type 0
HasSpans bytes tokens = SpansFrom 0 bytes tokens
