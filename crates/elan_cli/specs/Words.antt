-- What a word is by itself.
use Rattle.std.specs.Prelude.{ℕ, ◌==◌, ◌&&◌, Bool, List, length, map, Option, Some, None, if◌then◌else◌, nat_lt}
use Rattle.std.specs.Prelude.{nat_le, slice_index, String, string_bytes}
use Rattle.std.specs.List.{before_first, after_first, list_any}
use Rattle.std.specs.Str.{all_ascii_digits}
use Rattle.std.specs.Str.Parse.{digits_value}

-- the bytes of a word
abbrev pub Word : Type 0
Word = List ℕ

-- ---- names and values

-- the byte is `=`
abbrev pub is_equals : ℕ → Bool
is_equals b = b == 61

-- what stands before the first `=` of the word
abbrev pub name_part : Word → Word
name_part word = before_first is_equals word

-- what stands behind the first `=` of the word, where there is one
abbrev pub value_part : Word → Option Word
value_part word = if list_any is_equals word then Some (after_first is_equals word) else None

-- the word begins with `-`
abbrev pub begins_with_dash : Word → Bool
begins_with_dash word = slice_index word 0 == 45

-- ---- numbers

-- 1 to 19 digits, among which zeros may lead
abbrev pub is_numeral : Word → Bool
is_numeral text = nat_lt 0 (length text) && (nat_le (length text) 19 && all_ascii_digits text)

-- the number that digits write, where it is at least 1 and at most `most`
abbrev pub in_range : ℕ → Word → Option ℕ
in_range most digits =
    if nat_lt 0 (digits_value 10 digits) && nat_le (digits_value 10 digits) most then Some (digits_value 10 digits)
    else None

-- the number that a text of 1 to 19 digits writes, where it is at least 1 and at most `most`
abbrev pub number : ℕ → Word → Option ℕ
number most text = if is_numeral text then in_range most text else None

-- ---- words of a line

module _ {Z : Type 0} where
  -- the bytes of each word
  abbrev pub texts : List (String Z) → List Word
  texts words = map string_bytes words
