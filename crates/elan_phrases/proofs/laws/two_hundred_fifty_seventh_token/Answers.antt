use Rattle.elan_phrases.proofs.StrategyMarks.{strategy_first_mark}
use Rattle.elan_phrases.proofs.laws.two_hundred_fifty_seventh_token.Goals as goal

pub returns : goal.returns
returns c = strategy_first_mark 256
