use Rattle.std.proofs.Common.{◌≡◌, ◌∙◌, rules, tests}
use Rattle.std.specs.List.{list_all}
use Rattle.std.specs.Char.{is_ascii_digit}
use Rattle.std.proofs.lemmas.Iterator.{YieldsList-from_slice}
use Rattle.std.proofs.lemmas.Iterator.Search.{all_from_yields_List}
use Rattle.elan_cli.proofs.TextLemmas.{digits_alone}
use Rattle.elan_cli.proofs.number.has_digits_alone.Goals as goal

pub returns : goal.returns
returns c =
    let each : c.all.result ≡ list_all is_ascii_digit c.args.text.now =
    all_from_yields_List is_ascii_digit _ _ c.all.result c.all.ensures.ran
    (YieldsList-from_slice c.args.text.now cc)
    (λ x b q k. search (rules, tests)) in
    each ∙ digits_alone c.args.text.now
