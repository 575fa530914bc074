use Rattle.std.proofs.Common.{◌∙◌, ap, sym}
use Rattle.std.specs.Option.{option_map}
use Rattle.elan_names.specs.Indexed.{seen_found}
use Rattle.elan_names.proofs.IndexLemmas.{named_call}
use Rattle.elan_names.proofs.names.named.Goals as goal

pub returns-in-Some : goal.returns-in-Some
returns-in-Some c = named_call c.args.known.now.names.now c.args.sort c.args.word.now (seen_found c.in-Some.found) c.call.result
    (sym c.in_ok-first.ensures ∙ ap (option_map seen_found) c.in-Some.is) c.call.ensures
