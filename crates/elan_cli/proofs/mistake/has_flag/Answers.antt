use Rattle.std.proofs.Common.{◌≡◌, ◌∙◌, rules, string_bytes, tests}
use Rattle.std.specs.List.{list_any}
use Rattle.std.proofs.lemmas.Iterator.{YieldsList-from_slice}
use Rattle.std.proofs.lemmas.Iterator.Search.{any_from_yields_List}
use Rattle.elan_cli.specs.Settings.{is_flag}
use Rattle.elan_cli.proofs.TextLemmas.{list_any-texts}
use Rattle.elan_cli.proofs.mistake.has_flag.Goals as goal

pub returns : goal.returns
returns c =
    let each : c.any.result ≡ list_any (λ w. is_flag (string_bytes w)) c.args.words.now =
    any_from_yields_List (λ w. is_flag (string_bytes w)) _ _ c.any.result c.any.ensures.ran
    (YieldsList-from_slice c.args.words.now cc) (λ x b q k. search (rules, tests)) in
    each ∙ list_any-texts is_flag c.args.words.now
