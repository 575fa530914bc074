use Rattle.std.proofs.Common.{arith}
use Rattle.elan_phrases.proofs.ExactStrategies.{strategy_shrinks}
use Rattle.elan_phrases.proofs.strategies.strategy_plan.Goals as goal

-- a strategy takes a token
pub returns-clause-shorter : goal.returns-clause-shorter
returns-clause-shorter c = omega (arith, strategy_shrinks _ _ _ _ _ _ c.in_ok-found.ensures.read)
