-- A whole text is cut into pieces; its tokens are the pieces that are no white space and no comment.
use Rattle.std.specs.Prelude.{◌≡◌, ◌<◌, ◌≤◌, ℕ, List, [], ◌∷◌, ◌++◌, length, slice_range, Option, Some, None}
use Rattle.elan_text.specs.declared.refusal.Code.{Code}
use Rattle.elan_text.specs.declared.refusal.Place.{Place}
use Rattle.elan_text.specs.declared.refusal.Stop.{Stop}
use Rattle.elan_text.specs.declared.refusal.Stop.TheVariants.{Refused, NoMemory}
use Rattle.elan_lexer.specs.declared.token.Kind.{Kind}
use Rattle.elan_lexer.specs.declared.token.Token.{Token}
use Rattle.elan_lexer.specs.declared.fault.Fault.{Fault}
use Rattle.elan_lexer.specs.declared.places.Spot.{Spot}
use Rattle.elan_lexer.specs.Pieces.{IsPiece, IsFault, code_of}
use Rattle.elan_lexer.specs.Places.{start, moved}

-- a piece: the kind of a token, or none for white space and comments; and its bytes
pub record Piece : Type 0 where
  pub kind : Option Kind
  pub text : List ℕ

-- the bytes are these pieces and then the rest, each the piece that it is before what follows
abbrev pub Spells : List Piece → List ℕ → List ℕ → Type 0
Spells [] bytes rest = bytes ≡ rest
Spells (p ∷ ps) bytes rest = (after : List ℕ) × IsPiece p.kind p.text after × Spells ps after rest
    × (bytes ≡ p.text ++ after)

-- the token from one spot to another, where it is one
abbrev pub token_of : Option Kind → Spot → Spot → List Token
token_of None from to = []
token_of (Some kind) from to = record { kind = kind; start = from.offset; «end» = to.offset; at = from.at } ∷ []

-- the tokens among pieces, the first of which begins at this spot
abbrev pub tokens_of : Spot → List Piece → List Token
tokens_of s [] = []
tokens_of s (p ∷ ps) = let next = moved s p.text in token_of p.kind s next ++ tokens_of next ps

-- where the pieces end
abbrev pub spot_after : Spot → List Piece → Spot
spot_after s [] = s
spot_after s (p ∷ ps) = spot_after (moved s p.text) ps

-- these are the tokens of the text: it is pieces to its end, and they are the tokens among them
abbrev pub Fits : List ℕ → List Token → Type 0
Fits bytes tokens = (ps : List Piece) × Spells ps bytes [] × (tokens ≡ tokens_of start ps)

-- the text is refused so: up to this place it is pieces, and the fault of this code stands there
abbrev pub Refuses : List ℕ → Code → Place → Type 0
Refuses bytes code at =
    (ps : List Piece) × (rest : List ℕ) × (fault : Fault) × Spells ps bytes rest × IsFault fault rest
    × (code ≡ code_of fault) × (at ≡ (spot_after start ps).at)

-- a refusal is right, and names no module
abbrev pub IsRefusal : List ℕ → Stop → Type 0
IsRefusal bytes (Refused refusal) = Refuses bytes refusal.code refusal.at × (refusal.module ≡ None)
IsRefusal bytes NoMemory = Unit {0}

-- what is answered at a fault
abbrev pub refusal_at : Fault → Place → Stop
refusal_at fault at = Refused (record { code = code_of fault; at = at; «module» = None })

-- the bytes of a token
abbrev pub token_text : List ℕ → Token → List ℕ
token_text bytes token = slice_range bytes token.start token.end

-- a token has a byte at least, and ends where the text ends or before
abbrev pub IsInside : List ℕ → Token → Type 0
IsInside bytes token = (token.start < token.end) × (token.end ≤ length bytes)
