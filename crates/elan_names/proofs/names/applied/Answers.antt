use Rattle.std.proofs.Common.{◌∙◌, ap, sym}
use Rattle.std.specs.Option.{option_map}
use Rattle.elan_names.specs.Indexed.{seen_found}
use Rattle.elan_names.proofs.IndexLemmas.{applied_call}
use Rattle.elan_names.proofs.names.applied.Goals as goal

pub returns-in-Some : goal.returns-in-Some
returns-in-Some c = applied_call c.args.known.now.names.now c.args.known.now.operators.now c.args.sort c.args.word.now c.args.count (seen_found c.in-Some.found)
    c.definition.result (sym c.in_ok-first.ensures ∙ ap (option_map seen_found) c.in-Some.is) c.definition.ensures
