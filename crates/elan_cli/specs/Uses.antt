-- A line as a reader of the usage line writes it: uses of the flag and of the options, one after the other.
use Rattle.std.specs.Prelude.{◌≡◌, ℕ, Bool, true, false, List, [], ◌∷◌, ◌++◌, Option, Some, None, if◌then◌else◌}
use Rattle.std.specs.Prelude.{codes, is_some, option_and_then, unwrap_or}
use Rattle.std.specs.List.{list_any}
use Rattle.std.specs.Str.{bytes_eq}
use Rattle.elan_cli.specs.Words.{Word, number}
use Rattle.elan_cli.specs.Settings.{most, name_of, usual_steps, written}
use Rattle.elan_cli.specs.declared.given.Options.{Options}
use Rattle.elan_cli.specs.declared.setting.Setting.{Setting}
use Rattle.elan_cli.specs.declared.setting.Setting.TheVariants.{Workers, Limit, Steps, Demo}

-- `--plain`, `--name value` or `--name=value`
pub data Use : Type 0 where
  flag : Use
  apart : Setting → Word → Use
  joined : Setting → Word → Use

-- the words of a use
abbrev pub words_in : Use → List Word
words_in flag = codes "--plain" ∷ []
words_in (apart s v) = written s ∷ v ∷ []
words_in (joined s v) = (written s ++ 61 ∷ v) ∷ []

-- the words of a line
abbrev pub line_of : List Use → List Word
line_of [] = []
line_of (u ∷ us) = words_in u ++ line_of us

-- the two options are the same one
abbrev pub same : Setting → Setting → Bool
same s t = bytes_eq (name_of s) (name_of t)

-- the use is that of the flag
abbrev pub is_flag_use : Use → Bool
is_flag_use flag = true
is_flag_use (apart s v) = false
is_flag_use (joined s v) = false

-- the use is one of the option
abbrev pub is_use_of : Setting → Use → Bool
is_use_of t flag = false
is_use_of t (apart s v) = same s t
is_use_of t (joined s v) = same s t

-- the flag and each option stand at most once, and each value is a number in the range of its option
abbrev pub AreUses : Bool → List Use → Type 0
AreUses plain [] = Unit {0}
AreUses plain (flag ∷ us) = (list_any is_flag_use us ≡ false) × AreUses plain us
AreUses plain (apart s v ∷ us) =
    (is_some (number (most plain s) v) ≡ true) × (list_any (is_use_of s) us ≡ false) × AreUses plain us
AreUses plain (joined s v ∷ us) =
    (is_some (number (most plain s) v) ≡ true) × (list_any (is_use_of s) us ≡ false) × AreUses plain us

-- the value that the uses give the option
abbrev pub value_in : Setting → List Use → Option Word
value_in t [] = None
value_in t (flag ∷ us) = value_in t us
value_in t (apart s v ∷ us) = if same s t then Some v else value_in t us
value_in t (joined s v ∷ us) = if same s t then Some v else value_in t us

-- the number that the uses give the option
abbrev pub number_in : Bool → Setting → List Use → Option ℕ
number_in plain s us = option_and_then (number (most plain s)) (value_in s us)

-- what the uses ask for, with the usual number for each option that is not used
abbrev pub asked_by : Bool → List Use → Options
asked_by plain us = record {
  workers = unwrap_or (number_in plain Workers us) 1;
  limit = unwrap_or (number_in plain Limit us) 1000000;
  steps = unwrap_or (number_in plain Steps us) (usual_steps plain);
  plain = plain;
  demo = number_in plain Demo us;
}
