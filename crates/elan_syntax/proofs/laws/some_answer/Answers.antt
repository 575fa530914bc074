use Rattle.elan_syntax.specs.Grammar.{stream}
use Rattle.elan_syntax.proofs.ExactStreams.{stream_gives}
use Rattle.elan_syntax.proofs.Whole.{some_value}
use Rattle.elan_syntax.proofs.laws.some_answer.Goals as goal

pub returns : goal.returns
returns c = some_value stream stream_gives
