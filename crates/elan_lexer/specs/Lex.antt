-- The tokens of a text, piece by piece from the left.
use Rattle.std.specs.Prelude.{◌≡◌, ℕ, zero, suc, List, [], ◌∷◌, ◌++◌, length, take, drop, None, Result, Ok, Err}
use Rattle.elan_text.specs.declared.refusal.Place.{Place}
use Rattle.elan_text.specs.declared.refusal.Stop.{Stop}
use Rattle.elan_text.specs.declared.refusal.Stop.TheVariants.{Refused, NoMemory}
use Rattle.elan_lexer.specs.declared.token.Token.{Token}
use Rattle.elan_lexer.specs.declared.fault.Fault.{Fault}
use Rattle.elan_lexer.specs.declared.places.Spot.{Spot}
use Rattle.elan_lexer.specs.Places.{start, moved}
use Rattle.elan_lexer.specs.Pieces.{code_of}
use Rattle.elan_lexer.specs.Text.{token_of}
use Rattle.elan_lexer.specs.Cut.{Cut, piece}

-- tokens, or the first fault and its place
abbrev pub Lexed : Type 0
Lexed = Result (List Token) (Fault × Place)

-- these tokens before what is found afterwards
abbrev pub with_front : List Token → Lexed → Lexed
with_front xs (Ok ys) = Ok (xs ++ ys)
with_front xs (Err e) = Err e

-- the token of a piece before those of what follows, or the fault
abbrev pub next_piece : Cut → Spot → List ℕ → (Spot → List ℕ → Lexed) → Lexed
next_piece (Ok found) s bytes more = let next = moved s (take found.1 bytes) in
    with_front (token_of found.0 s next) (more next (drop found.1 bytes))
next_piece (Err fault) s bytes more = Err (fault, s.at)

-- the tokens from a spot on; the number bounds the turns
unfoldable pub lex : ℕ → Spot → List ℕ → Lexed
lex n s [] = Ok []
lex zero s (b ∷ bs) = Ok []
lex (suc n) s (b ∷ bs) = next_piece (piece b bs) s (b ∷ bs) (lex n)

-- the tokens of a text
abbrev pub lexed : List ℕ → Lexed
lexed bytes = lex (length bytes) start bytes

-- a refusal is the fault that was met, and names no module
abbrev pub Meets : Lexed → Stop → Type 0
Meets result (Refused refusal) = (fault : Fault) × (result ≡ Err (fault, refusal.at)) × (refusal.code ≡ code_of fault)
    × (refusal.module ≡ None)
Meets result NoMemory = Unit {0}
