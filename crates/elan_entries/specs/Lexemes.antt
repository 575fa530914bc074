-- Tokens as readings see them: their kinds, and the integer of digits.
use Rattle.std.specs.Prelude.{ℕ, ℤ, pos, neg_ℤ, Bool, true, false, ◌&&◌, if◌then◌else◌, List, [], ◌∷◌}
use Rattle.std.specs.Str.{bytes_eq}
use Rattle.elan_lexer.specs.declared.token.Kind.{Kind}
use Rattle.elan_lexer.specs.declared.token.Kind.TheVariants.{Word, Number, Sign}
use Rattle.elan_lexer.specs.Bytes.{value}
use Rattle.elan_reading.specs.declared.lexeme.Lexeme.{Lexeme}

-- whether a token is a word
abbrev pub is_word_kind : Kind → Bool
is_word_kind Word = true
is_word_kind Number = false
is_word_kind Sign = false

-- whether a token is a number
abbrev pub is_number_kind : Kind → Bool
is_number_kind Word = false
is_number_kind Number = true
is_number_kind Sign = false

-- whether a token is a sign
abbrev pub is_sign_kind : Kind → Bool
is_sign_kind Word = false
is_sign_kind Number = false
is_sign_kind Sign = true

-- whether a token is the sign of one byte
abbrev pub is_sign : ℕ → Lexeme → Bool
is_sign byte t = is_sign_kind t.kind && bytes_eq t.text (byte ∷ [])

-- the integer of these digits, or its negative
abbrev pub integer : Bool → List ℕ → ℤ
integer negative digits = if negative then neg_ℤ (pos (value digits)) else pos (value digits)
