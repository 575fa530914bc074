-- What a byte may be.
use Rattle.std.specs.Prelude.{ℕ, ◌+◌, ◌-◌, ◌*◌, Bool, false, not, ◌&&◌, ◌||◌, ◌==◌, nat_le, List, [], ◌∷◌}
use Rattle.elan_lexer.specs.declared.bytes.Class.{Class}
use Rattle.elan_lexer.specs.declared.bytes.Class.TheVariants.{Word, Digit, Line}

-- it lies in a range, both ends included
abbrev pub is_between : ℕ → ℕ → ℕ → Bool
is_between low high b = nat_le low b && nat_le b high

-- a tab, a line feed, a carriage return or a space
abbrev pub is_white : ℕ → Bool
is_white b = b == 9 || (b == 10 || (b == 13 || b == 32))

-- from `A` to `Z`, or from `a` to `z`
abbrev pub is_letter : ℕ → Bool
is_letter b = is_between 65 90 b || is_between 97 122 b

-- from `0` to `9`
abbrev pub is_digit : ℕ → Bool
is_digit b = is_between 48 57 b

-- a byte that may stand in a token
abbrev pub is_visible : ℕ → Bool
is_visible b = is_between 33 126 b

-- the bytes after a word's first letter; the digits of a number; the bytes of a line
unfoldable pub is_in : Class → ℕ → Bool
is_in Word b = is_letter b || (is_digit b || b == 95)
is_in Digit b = is_digit b
is_in Line b = not (b == 10)

-- the value of digits that follow others of this value
abbrev pub value_from : ℕ → List ℕ → ℕ
value_from n [] = n
value_from n (b ∷ bs) = value_from (10 * n + (b - 48)) bs

-- the value of digits, the first one the greatest
abbrev pub value : List ℕ → ℕ
value = value_from 0

-- the greatest value of a number
abbrev pub max_number : ℕ
max_number = 9223372036854775807

-- a text begins with this byte
abbrev pub begins : ℕ → List ℕ → Bool
begins c [] = false
begins c (b ∷ bs) = b == c

-- two bytes are one sign: `=>`, `==`, `:=`, `!=`, `<=` or `>=`
abbrev pub is_pair : ℕ → ℕ → Bool
is_pair b c = (b == 61 && (c == 62 || c == 61)) || ((b == 58 || (b == 33 || (b == 60 || b == 62))) && c == 61)

-- a byte and the one at the front of what follows are one sign
abbrev pub begins_pair : ℕ → List ℕ → Bool
begins_pair b [] = false
begins_pair b (c ∷ bs) = is_pair b c
