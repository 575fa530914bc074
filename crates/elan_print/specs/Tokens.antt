-- The tokens that are written for a term, and the spaces between them.
use Rattle.std.specs.Prelude.{ℕ, suc, ℤ, pos, negsuc, Bool, true, false, ◌||◌, ◌==◌, if◌then◌else◌, List, [], ◌∷◌, ◌++◌, decimal}
use Rattle.elan_lexer.specs.declared.token.Kind.{Kind}
use Rattle.elan_lexer.specs.declared.token.Kind.TheVariants.{Word, Sign}
use Rattle.elan_program.specs.Spelling.{is_letter}
use Rattle.elan_reading.specs.declared.lexeme.Lexeme.{Lexeme}
use Rattle.elan_reading.specs.Lexemes.{number_token, sign_token}

-- A printed token, by what it is there for: a token of a spelling, a grouping parenthesis, the `-` of a negative integer,
-- or the digits of an integer.
pub data Printed : Type 0 where
  spelled : List ℕ → Printed
  opening : Printed
  closing : Printed
  minus : Printed
  digits : List ℕ → Printed

-- the kind of a token of a spelling: a word begins with a letter, and all others are signs
abbrev pub kind_of : List ℕ → Kind
kind_of [] = Sign
kind_of (b ∷ bs) = if is_letter b then Word else Sign

-- its kind and its bytes
abbrev pub token_of : Printed → Lexeme
token_of (spelled bytes) = record { kind = kind_of bytes; text = bytes }
token_of opening = sign_token 40
token_of closing = sign_token 41
token_of minus = sign_token 45
token_of (digits bytes) = number_token bytes

-- its bytes alone
abbrev pub bytes_of : Printed → List ℕ
bytes_of p = let token = token_of p in token.text

-- ---- spaces

-- whether the bytes are `(`, `[` or `,`
abbrev pub opens : List ℕ → Bool
opens (b ∷ []) = b == 40 || (b == 91 || b == 44)
opens _ = false

-- whether the bytes are `)`, `]`, `[`, `,` or `(`
abbrev pub closes : List ℕ → Bool
closes (b ∷ []) = b == 41 || (b == 93 || (b == 91 || (b == 44 || b == 40)))
closes _ = false

-- no space stands after `(`, `[` and `,`, and after the `-` of an integer
abbrev pub is_tight_after : Printed → Bool
is_tight_after (spelled bytes) = opens bytes
is_tight_after opening = true
is_tight_after closing = false
is_tight_after minus = true
is_tight_after (digits bytes) = false

-- no space stands before `)`, `]`, `[` and `,`, and before a `(` that belongs to a spelling
abbrev pub is_tight_before : Printed → Bool
is_tight_before (spelled bytes) = closes bytes
is_tight_before opening = false
is_tight_before closing = true
is_tight_before minus = false
is_tight_before (digits bytes) = false

-- one space, or none where it is tight
abbrev pub space_unless : Bool → List ℕ
space_unless tight = if tight then [] else 32 ∷ []

-- The text of these tokens. The first has a space before it, unless none may stand there; and so has each other one.
abbrev pub written : Bool → List Printed → List ℕ
written tight [] = []
written tight (p ∷ ps) = space_unless (tight || is_tight_before p) ++ (bytes_of p ++ written (is_tight_after p) ps)

-- the text of these tokens, which no space begins
abbrev pub text_of : List Printed → List ℕ
text_of ps = written true ps

-- ---- integers

-- the decimal digits, with `-` before them where the integer is negative
abbrev pub integer : ℤ → List Printed
integer (pos n) = digits (decimal n) ∷ []
integer (negsuc n) = minus ∷ digits (decimal (suc n)) ∷ []
