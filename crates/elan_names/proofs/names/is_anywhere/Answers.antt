use Rattle.std.proofs.Common.{◌∙◌}
use Rattle.elan_names.specs.Groups.{value_of}
use Rattle.elan_names.proofs.IndexLemmas.{named_anywhere}
use Rattle.elan_names.proofs.names.is_anywhere.Goals as goal

pub returns : goal.returns
returns c = c.are_some.ensures ∙ named_anywhere c.args.known.now.index.now c.args.known.now.names.now c.args.known.now.operators.now c.args.known.now.indexed
    c.args.word.now (value_of c.in_ok-key.key) c.in_ok-key.ensures c.find-heads.result.now c.find-labels.result.now c.find-heads.ensures c.find-labels.ensures
