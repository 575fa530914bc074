use Rattle.elan_lexer.proofs.Answered.{answered}
use Rattle.elan_lexer.proofs.laws.some_answer.Goals as goal

pub returns : goal.returns
returns c = answered
