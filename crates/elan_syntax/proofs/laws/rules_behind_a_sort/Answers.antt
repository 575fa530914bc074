use Rattle.elan_syntax.proofs.PlainRules.{factored}
use Rattle.elan_syntax.proofs.laws.rules_behind_a_sort.Goals as goal

pub returns : goal.returns
returns c = factored
