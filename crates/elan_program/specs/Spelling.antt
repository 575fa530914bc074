-- Which words an operator's spelling may have.
use Rattle.std.specs.Prelude.{ℕ, Bool, false, not, ◌&&◌, ◌||◌, ◌==◌, nat_le, List, [], ◌∷◌, codes}
use Rattle.std.specs.List.{list_all, list_any}
use Rattle.std.specs.Str.{bytes_eq}

-- whether a byte is a letter
abbrev pub is_letter : ℕ → Bool
is_letter b = (nat_le 65 b && nat_le b 90) || (nat_le 97 b && nat_le b 122)

-- whether a byte is a digit
abbrev pub is_digit : ℕ → Bool
is_digit b = nat_le 48 b && nat_le b 57

-- whether a byte is a letter, a digit or `_`
abbrev pub is_in_word : ℕ → Bool
is_in_word b = is_letter b || (is_digit b || b == 95)

-- a letter, followed by letters, digits and `_`
abbrev pub is_word : List ℕ → Bool
is_word [] = false
is_word (b ∷ bs) = is_letter b && list_all is_in_word bs

-- the words that no spelling has
unfoldable pub reserved : List (List ℕ)
reserved =
    codes "module" ∷ codes "import" ∷ codes "sort" ∷ codes "operators" ∷ codes "rules" ∷ codes "strategies" ∷ codes "for"
    ∷ codes "global" ∷ codes "local" ∷ codes "end" ∷ codes "where" ∷ codes "if" ∷ codes "LPL" ∷ []

-- the signs of two bytes that a spelling may have
unfoldable pub long_signs : List (List ℕ)
long_signs = codes "==" ∷ codes "!=" ∷ codes "<=" ∷ codes ">=" ∷ []

-- One byte from 33 to 126 that is no letter, no digit, and none of `@`, `:` and `;`: the first of these is the place of
-- an argument, and the others end a spelling.
abbrev pub is_sign_byte : ℕ → Bool
is_sign_byte b = (nat_le 33 b && nat_le b 126) && (not (is_letter b || is_digit b) && not (b == 64 || (b == 58 || b == 59)))

-- a sign of one byte
abbrev pub is_short_sign : List ℕ → Bool
is_short_sign (b ∷ []) = is_sign_byte b
is_short_sign _ = false

-- a word that is not reserved
unfoldable pub is_name : List ℕ → Bool
is_name text = is_word text && not (list_any (bytes_eq text) reserved)

-- a word that is not reserved, or a sign
unfoldable pub is_spelled : List ℕ → Bool
is_spelled text = is_name text || (list_any (bytes_eq text) long_signs || is_short_sign text)
