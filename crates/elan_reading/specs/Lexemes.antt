-- Tokens as readings see them: a kind and bytes.
use Rattle.std.specs.Prelude.{◌≡◌, ◌<◌, ◌^◌, ℕ, List, [], ◌∷◌}
use Rattle.elan_lexer.specs.declared.token.Kind.TheVariants.{Word, Number, Sign}
use Rattle.elan_lexer.specs.declared.token.Token.{Token}
use Rattle.elan_lexer.specs.Bytes.{value}
use Rattle.elan_lexer.specs.Text.{token_text}
use Rattle.elan_reading.specs.declared.lexeme.Lexeme.{Lexeme}

-- a word of these bytes
abbrev pub word_token : List ℕ → Lexeme
word_token bytes = record { kind = Word; text = bytes }

-- a number of these digits
abbrev pub number_token : List ℕ → Lexeme
number_token digits = record { kind = Number; text = digits }

-- the sign of one byte
abbrev pub sign_token : ℕ → Lexeme
sign_token byte = record { kind = Sign; text = byte ∷ [] }

-- the kind and the bytes of a token of a text
abbrev pub lexeme_of : List ℕ → Token → Lexeme
lexeme_of bytes t = record { kind = t.kind; text = token_text bytes t }

-- a number has a value of at most 9,223,372,036,854,775,807
abbrev pub IsInRange : Lexeme → Type 0
IsInRange t = t.kind ≡ Number → value t.text < 2 ^ 63
