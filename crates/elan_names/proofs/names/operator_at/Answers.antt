use Rattle.std.proofs.Common.{◌∙◌, ap}
use Rattle.elan_names.specs.Names as spec
use Rattle.elan_names.specs.Groups.{value_of}
use Rattle.elan_names.proofs.IndexLemmas.{operators_there}
use Rattle.elan_names.proofs.names.operator_at.Goals as goal

pub returns : goal.returns
returns c = c.operator_or.ensures
    ∙ ap (λ numbers. spec.operator_or numbers c.missing-code.result) (operators_there c.args.known.now.index.now c.args.known.now.names.now c.args.known.now.operators.now c.args.known.now.indexed
    c.args.word.now c.args.count c.args.sort (value_of c.in_ok-key.key) c.in_ok-key.ensures c.find.result.now c.find.ensures)
    ∙ ap (spec.operator_or (spec.places (spec.is_prefixed_of c.args.word.now c.args.count c.args.sort) 0 c.args.known.now.operators.now))
    (c.missing-code.ensures ∙ ap spec.missing c.in_ok-is_applied_anywhere.ensures)
