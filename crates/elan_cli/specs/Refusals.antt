-- Which word is refused and what is wrong with it, for each kind of refusal.
use Rattle.std.specs.Prelude.{◌≡◌, Bool, true, false, List, ◌∷◌, ◌++◌, length, Some, None}
use Rattle.elan_cli.specs.Words.{Word, number, value_part}
use Rattle.elan_cli.specs.Settings.{is_flag, most, named, names, wants}
use Rattle.elan_cli.specs.Line.{begins_with_value, has_flag, has_setting, mistake, valued}
use Rattle.elan_cli.specs.declared.fault.WordsRefusal.{WordsRefusal}
use Rattle.elan_cli.specs.declared.fault.WordsRefusal.TheVariants.{Unknown, Repeated, NoValue, OutOfRange, NoMemory}
use Rattle.elan_cli.specs.declared.setting.Setting.{Setting}

-- the word is no value, not the flag, and names no option
pub record IsUnknown (before : List Word) (word : Word) : Type 0 where
  pub no_value : valued before word ≡ None
  pub no_flag : is_flag word ≡ false
  pub no_option : named word ≡ None

-- the word is the flag, or names an option, and one of the words before it is or does so too
pub data IsRepeated (before : List Word) (word : Word) : Type 0 where
  flag_again : is_flag word ≡ true → has_flag before ≡ true → IsRepeated before word
  option_again : (s : Setting) → names s word ≡ true → has_setting s before ≡ true → IsRepeated before word

-- the word is an option whose value is to stand in the next word, and there is none, or it begins with `-`
pub record LacksValue (word : Word) (after : List Word) : Type 0 where
  pub setting : Setting
  pub is_option : wants word ≡ Some setting
  pub no_value : begins_with_value after ≡ false

-- the word is the value of the option, or holds it behind its first `=`
pub data HoldsValue (before : List Word) (word : Word) (s : Setting) (value : Word) : Type 0 where
  whole : valued before word ≡ Some s → word ≡ value → HoldsValue before word s value
  part : names s word ≡ true → value_part word ≡ Some value → HoldsValue before word s value

-- the word holds a value that is no number in the range of its option
pub record IsPastRange (plain : Bool) (before : List Word) (word : Word) : Type 0 where
  pub setting : Setting
  pub value : Word
  pub holds : HoldsValue before word setting value
  pub no_number : number (most plain setting) value ≡ None

-- what is wrong with a word between the words before it and those behind it
abbrev pub IsWrong : Bool → List Word → Word → List Word → WordsRefusal → Type 0
IsWrong plain before word after (Unknown k) = (k ≡ length before) × IsUnknown before word
IsWrong plain before word after (Repeated k) = (k ≡ length before) × IsRepeated before word
IsWrong plain before word after (NoValue k) = (k ≡ length before) × LacksValue word after
IsWrong plain before word after (OutOfRange k) = (k ≡ length before) × IsPastRange plain before word
IsWrong plain before word after NoMemory = ⊥

-- the first word that is refused, and what is wrong with it
pub record IsFirstWrong (plain : Bool) (words : List Word) (e : WordsRefusal) : Type 0 where
  pub before : List Word
  pub word : Word
  pub after : List Word
  pub cut : words ≡ before ++ word ∷ after
  pub wrong : IsWrong plain before word after e
  pub none_before : (front : List Word) (other : Word) (back : List Word) → before ≡ front ++ other ∷ back
      → mistake plain front other (back ++ word ∷ after) ≡ None
