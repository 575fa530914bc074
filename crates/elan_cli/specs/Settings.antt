-- The options that take a value, and the flag.
use Rattle.std.specs.Prelude.{ℕ, Bool, [], ◌∷◌, ◌++◌, Option, None, if◌then◌else◌, codes, find, is_some}
use Rattle.std.specs.Str.{bytes_eq}
use Rattle.elan_cli.specs.Words.{Word, name_part, value_part}
use Rattle.elan_cli.specs.declared.setting.Setting.{Setting}
use Rattle.elan_cli.specs.declared.setting.Setting.TheVariants.{Workers, Limit, Steps, Demo}

-- the name of an option
abbrev pub name_of : Setting → Word
name_of Workers = codes "workers"
name_of Limit = codes "limit"
name_of Steps = codes "steps"
name_of Demo = codes "demo"

-- how an option is written
abbrev pub written : Setting → Word
written s = codes "--" ++ name_of s

-- the word is the flag
abbrev pub is_flag : Word → Bool
is_flag word = bytes_eq word (codes "--plain")

-- the word names the option, with or without a value in the same word
abbrev pub names : Setting → Word → Bool
names s word = bytes_eq (name_part word) (written s)

-- the option that a word names
abbrev pub named : Word → Option Setting
named word = find (λ s. names s word) (Workers ∷ Limit ∷ Steps ∷ Demo ∷ [])

-- the option whose value is to stand in the word behind this one
abbrev pub wants : Word → Option Setting
wants word = if is_some (value_part word) then None else named word

-- ---- ranges, which all begin with 1, and what stands where nothing is given

-- the greatest number of steps
abbrev pub most_steps : Bool → ℕ
most_steps plain = if plain then 1000 else 1000000

-- the greatest number that an option may have
abbrev pub most : Bool → Setting → ℕ
most plain Workers = 64
most plain Limit = 1000000
most plain Steps = most_steps plain
most plain Demo = 200

-- the number of steps where none is given
abbrev pub usual_steps : Bool → ℕ
usual_steps plain = if plain then 1000 else 10000
