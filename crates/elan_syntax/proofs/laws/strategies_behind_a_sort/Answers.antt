use Rattle.elan_syntax.proofs.PlainStrategies.{factored}
use Rattle.elan_syntax.proofs.laws.strategies_behind_a_sort.Goals as goal

pub returns : goal.returns
returns c = factored
