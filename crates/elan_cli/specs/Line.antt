-- What the words of a line ask for, and which of them is refused first.
use Rattle.std.specs.Prelude.{ℕ, ◌-◌, ◌||◌, Bool, not, List, [], ◌∷◌, ◌++◌, length, Option, Some, None}
use Rattle.std.specs.Prelude.{if◌then◌else◌, is_some, unwrap_or, option_and_then, slice_get, false}
use Rattle.std.specs.List.{list_any}
use Rattle.std.specs.Option.{option_map_or, option_or}
use Rattle.elan_cli.specs.Words.{Word, begins_with_dash, number, value_part}
use Rattle.elan_cli.specs.Settings.{is_flag, most, named, names, usual_steps, wants}
use Rattle.elan_cli.specs.declared.fault.WordsRefusal.{WordsRefusal}
use Rattle.elan_cli.specs.declared.fault.WordsRefusal.TheVariants.{Unknown, Repeated, NoValue, OutOfRange}
use Rattle.elan_cli.specs.declared.given.Options.{Options}
use Rattle.elan_cli.specs.declared.setting.Setting.{Setting}
use Rattle.elan_cli.specs.declared.setting.Setting.TheVariants.{Workers, Limit, Steps, Demo}

-- ---- what the words say

-- one of the words is the flag
abbrev pub has_flag : List Word → Bool
has_flag words = list_any is_flag words

-- one of the words names the option
abbrev pub has_setting : Setting → List Word → Bool
has_setting s words = list_any (names s) words

-- the first of the words
abbrev pub first : List Word → Option Word
first words = slice_get words 0

-- the value that stands in a word behind its first `=`, or else in the next word
abbrev pub value_at : Word → List Word → Option Word
value_at word rest = option_or (value_part word) (first rest)

-- the value at the first word that names the option
abbrev pub value_of : Setting → List Word → Option Word
value_of s [] = None
value_of s (word ∷ rest) = if names s word then value_at word rest else value_of s rest

-- the number that the words give the option, where it is in its range
abbrev pub given : Bool → Setting → List Word → Option ℕ
given plain s words = option_and_then (number (most plain s)) (value_of s words)

-- what the words ask for, with the usual number for each option that they leave out
abbrev pub read : Bool → List Word → Options
read plain words = record {
  workers = unwrap_or (given plain Workers words) 1;
  limit = unwrap_or (given plain Limit words) 1000000;
  steps = unwrap_or (given plain Steps words) (usual_steps plain);
  plain = plain;
  demo = given plain Demo words;
}

-- ---- which words are refused; `before` are the words before a word, and `after` those behind it

-- the option whose value a word behind these is, where it does not begin with `-`
abbrev pub wanted : List Word → Option Setting
wanted before = option_and_then wants (slice_get before (length before - 1))

-- the option whose value the word is
abbrev pub valued : List Word → Word → Option Setting
valued before word = if begins_with_dash word then None else wanted before

-- the words begin with one that may be a value
abbrev pub begins_with_value : List Word → Bool
begins_with_value words = option_map_or (λ word. not (begins_with_dash word)) (first words) false

-- a value is no number in the range of its option
abbrev pub mistake_in_value : Bool → ℕ → Setting → Word → Option WordsRefusal
mistake_in_value plain at s value = if is_some (number (most plain s) value) then None else Some (OutOfRange at)

-- the flag stands a second time
abbrev pub mistake_in_flag : List Word → Option WordsRefusal
mistake_in_flag before = if has_flag before then Some (Repeated (length before)) else None

-- an option has no value in its own word
abbrev pub mistake_without_value : ℕ → List Word → Option WordsRefusal
mistake_without_value at after = if begins_with_value after then None else Some (NoValue at)

-- an option stands a second time, or has no value, or one that is out of range
abbrev pub mistake_in_setting : Bool → List Word → Setting → Word → List Word → Option WordsRefusal
mistake_in_setting plain before s word after =
    if has_setting s before then Some (Repeated (length before))
    else option_map_or (mistake_in_value plain (length before) s) (value_part word)
    (mistake_without_value (length before) after)

-- a word that is no value is the flag, an option, or unknown
abbrev pub mistake_in_name : Bool → List Word → Word → List Word → Option WordsRefusal
mistake_in_name plain before word after =
    if is_flag word then mistake_in_flag before
    else option_map_or (λ s. mistake_in_setting plain before s word after) (named word)
    (Some (Unknown (length before)))

-- why a word is refused, if it is
abbrev pub mistake : Bool → List Word → Word → List Word → Option WordsRefusal
mistake plain before word after =
    option_map_or (λ s. mistake_in_value plain (length before) s word) (valued before word)
    (mistake_in_name plain before word after)

-- why the first word of `after` that is refused is so
abbrev pub first_mistake : Bool → List Word → List Word → Option WordsRefusal
first_mistake plain before [] = None
first_mistake plain before (word ∷ after) =
    option_or (mistake plain before word after) (first_mistake plain (before ++ word ∷ []) after)

-- ---- the whole line; `plain` says that the caller asks for the plain engine

-- the range of steps is that of the plain engine
abbrev pub is_plain : Bool → List Word → Bool
is_plain plain words = plain || has_flag words

-- why the words are refused, if they are
unfoldable pub refusal_of : Bool → List Word → Option WordsRefusal
refusal_of plain words = first_mistake (is_plain plain words) [] words

-- what the words ask for, if they are not refused
unfoldable pub options_of : Bool → List Word → Option Options
options_of plain words =
    if is_some (first_mistake (is_plain plain words) [] words) then None else Some (read (is_plain plain words) words)
