use Rattle.elan_phrases.proofs.StrategyMarks.{strategy_marks}
use Rattle.elan_phrases.proofs.laws.long_strategies.Goals as goal

pub returns : goal.returns
returns c = strategy_marks 256
