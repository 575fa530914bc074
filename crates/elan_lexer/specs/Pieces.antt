-- A text is cut into pieces: white space, comments and tokens. This is what a piece is, given what comes after it.
use Rattle.std.specs.Prelude.{◌≡◌, ◌≤◌, ◌<◌, ℕ, Bool, true, false, List, [], ◌∷◌, ◌++◌, Option, Some, None, ◌⊎◌}
use Rattle.elan_text.specs.declared.refusal.Code as codes
use Rattle.elan_text.specs.declared.refusal.Code.{Code}
use Rattle.elan_lexer.specs.declared.token.Kind.{Kind}
use Rattle.elan_lexer.specs.declared.token.Kind.TheVariants.{Word, Number, Sign}
use Rattle.elan_lexer.specs.declared.bytes.Class.TheVariants as class
use Rattle.elan_lexer.specs.declared.fault.Fault.{Fault}
use Rattle.elan_lexer.specs.declared.fault.Fault.TheVariants.{BadByte, Unclosed, TooLarge}
use Rattle.elan_lexer.specs.Bytes.{is_white, is_letter, is_digit, is_visible, is_in, value, max_number, begins, begins_pair, is_pair}

-- each byte passes the test
abbrev pub AllIn : (ℕ → Bool) → List ℕ → Type 0
AllIn p [] = Unit {0}
AllIn p (b ∷ bs) = (p b ≡ true) × AllIn p bs

-- what comes after does not begin with such a byte
abbrev pub StopsAt : (ℕ → Bool) → List ℕ → Type 0
StopsAt p [] = Unit {0}
StopsAt p (b ∷ bs) = p b ≡ false

-- no end of a comment lies in these bytes
abbrev pub Open : List ℕ → Type 0
Open bytes = (u v : List ℕ) → bytes ≡ u ++ 42 ∷ 47 ∷ v → ⊥

-- one byte of white space
abbrev pub IsWhite : List ℕ → Type 0
IsWhite text = (b : ℕ) × (is_white b ≡ true) × (text ≡ b ∷ [])

-- `//` up to a line feed or the end
abbrev pub IsLine : List ℕ → List ℕ → Type 0
IsLine text rest = (body : List ℕ) × AllIn (is_in class.Line) body × StopsAt (is_in class.Line) rest
    × (text ≡ 47 ∷ 47 ∷ body)

-- `/*` up to the first `*/` after it
abbrev pub IsBlock : List ℕ → Type 0
IsBlock text = (body : List ℕ) × Open (body ++ 42 ∷ []) × (text ≡ 47 ∷ 42 ∷ body ++ 42 ∷ 47 ∷ [])

-- a letter and all letters, digits and `_` that follow
abbrev pub IsWord : List ℕ → List ℕ → Type 0
IsWord text rest = (b : ℕ) × (bs : List ℕ) × (is_letter b ≡ true) × AllIn (is_in class.Word) bs
    × StopsAt (is_in class.Word) rest × (text ≡ b ∷ bs)

-- the digits, all that stand there
abbrev pub AreDigits : List ℕ → List ℕ → Type 0
AreDigits text rest = (b : ℕ) × (bs : List ℕ) × (is_digit b ≡ true) × AllIn is_digit bs × StopsAt is_digit rest
    × (text ≡ b ∷ bs)

-- a byte that may be a sign
abbrev pub IsSignByte : ℕ → Type 0
IsSignByte b = (is_visible b ≡ true) × (is_letter b ≡ false) × (is_digit b ≡ false)

-- one of the six signs of two bytes, or another byte where none of them and no comment begins
abbrev pub IsSign : List ℕ → List ℕ → Type 0
IsSign text rest =
    ((b : ℕ) × (c : ℕ) × (is_pair b c ≡ true) × (text ≡ b ∷ c ∷ []))
    ⊎ ((b : ℕ) × IsSignByte b × (begins_pair b rest ≡ false)
    × (b ≡ 47 → (begins 47 rest ≡ false) × (begins 42 rest ≡ false)) × (text ≡ b ∷ []))

-- the longest token of this kind, given what comes after it
abbrev pub IsToken : Kind → List ℕ → List ℕ → Type 0
IsToken Word text rest = IsWord text rest
IsToken Number text rest = AreDigits text rest × (value text ≤ max_number)
IsToken Sign text rest = IsSign text rest

-- a byte of white space or a whole comment
abbrev pub IsBlank : List ℕ → List ℕ → Type 0
IsBlank text rest = IsWhite text ⊎ (IsLine text rest ⊎ IsBlock text)

-- a token of this kind, or no token
abbrev pub IsPiece : Option Kind → List ℕ → List ℕ → Type 0
IsPiece None text rest = IsBlank text rest
IsPiece (Some kind) text rest = IsToken kind text rest

-- why no piece begins a text
abbrev pub IsFault : Fault → List ℕ → Type 0
IsFault BadByte bytes = (b : ℕ) × (bs : List ℕ) × (is_white b ≡ false) × (is_visible b ≡ false) × (bytes ≡ b ∷ bs)
IsFault Unclosed bytes = (bs : List ℕ) × Open bs × (bytes ≡ 47 ∷ 42 ∷ bs)
IsFault TooLarge bytes = (text : List ℕ) × (rest : List ℕ) × AreDigits text rest × (max_number < value text)
    × (bytes ≡ text ++ rest)

-- the code that a fault is refused with
abbrev pub code_of : Fault → Code
code_of BadByte = codes.TheVariants.E02
code_of Unclosed = codes.TheVariants.E03
code_of TooLarge = codes.TheVariants.E04
