use Rattle.std.proofs.Common.{arith}
use Rattle.elan_phrases.proofs.ExactSorts.{arguments_keep}
use Rattle.elan_phrases.proofs.sort_expressions.closing_arguments.Goals as goal

-- reading leaves no more tokens
pub returns-clause-no_longer : goal.returns-clause-no_longer
returns-clause-no_longer c = omega (arith, arguments_keep _ _ _ _ _ _ c.in_ok-arguments.ensures.read)
