use Rattle.std.proofs.Common.{◌∙◌}
use Rattle.elan_names.specs.Groups.{value_of}
use Rattle.elan_names.proofs.IndexLemmas.{taken_there}
use Rattle.elan_names.proofs.names.is_taken.Goals as goal

pub returns : goal.returns
returns c = c.is_below_or_some.ensures ∙ taken_there c.args.known.now.index.now c.args.known.now.names.now c.args.known.now.operators.now c.args.known.now.indexed
    c.args.word.now c.args.sort (value_of c.in_ok-key.key) c.in_ok-key.ensures c.args.before c.find-heads.result.now c.find-rules.result.now
    c.find-heads.ensures c.find-rules.ensures
