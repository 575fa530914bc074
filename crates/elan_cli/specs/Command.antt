-- The command by which `clap` reads the words that are not refused: four options with one value each, and the flag.
use Rattle.std.specs.Prelude.{Some, codes, true}
use Rattle.clap.specs.Words.{App, Rule, Text, new_app, new_rule, with_rule}
use Rattle.clap.specs.Simple.{on_top}
use Rattle.clap.specs.declared.builder.action.ArgAction.TheVariants.{Set, SetTrue}
use Rattle.elan_cli.specs.Settings.{name_of}
use Rattle.elan_cli.specs.declared.setting.Setting.TheVariants.{Workers, Limit, Steps, Demo}

-- an option with one value
abbrev pub option_rule : Text → Rule
option_rule name = record (new_rule name) { long = Some name; action = Some Set }

-- the flag
abbrev pub flag_rule : Rule
flag_rule = record (new_rule (codes "plain")) { long = Some (codes "plain"); action = Some SetTrue }

-- a command whose first word is no program's name
abbrev pub bare_app : App
bare_app = on_top (λ s. record s { no_binary_name = true }) (new_app (codes "elan"))

-- the command
abbrev pub elan : App
elan = with_rule (with_rule (with_rule (with_rule (with_rule bare_app (option_rule (name_of Workers)))
    (option_rule (name_of Limit))) (option_rule (name_of Steps))) (option_rule (name_of Demo))) flag_rule
