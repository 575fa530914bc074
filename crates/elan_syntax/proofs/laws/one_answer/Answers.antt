use Rattle.elan_syntax.specs.Grammar.{stream}
use Rattle.elan_syntax.proofs.ExactStreams.{stream_gives}
use Rattle.elan_syntax.proofs.Whole.{two_values, value_refused, two_refusals}
use Rattle.elan_syntax.proofs.laws.one_answer.Goals as goal

pub returns-clause-outline : goal.returns-clause-outline
returns-clause-outline c = two_values stream stream_gives

pub returns-clause-apart : goal.returns-clause-apart
returns-clause-apart c = value_refused stream stream_gives

pub returns-clause-refusal : goal.returns-clause-refusal
returns-clause-refusal c = two_refusals stream stream_gives
