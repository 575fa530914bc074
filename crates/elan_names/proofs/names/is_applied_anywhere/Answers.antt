use Rattle.std.proofs.Common.{◌∙◌}
use Rattle.elan_names.specs.Groups.{value_of}
use Rattle.elan_names.proofs.IndexLemmas.{applied_anywhere}
use Rattle.elan_names.proofs.names.is_applied_anywhere.Goals as goal

pub returns : goal.returns
returns c = c.are_some.ensures ∙ applied_anywhere c.args.known.now.index.now c.args.known.now.names.now c.args.known.now.operators.now c.args.known.now.indexed
    c.args.word.now c.args.count (value_of c.in_ok-name.name) (value_of c.in_ok-prefix.prefix) c.in_ok-name.ensures c.in_ok-prefix.ensures
    c.find-heads.result.now c.find-operators.result.now c.find-heads.ensures c.find-operators.ensures
