use Rattle.std.proofs.Common.{arith}
use Rattle.elan_phrases.proofs.ExactSorts.{sort_shrinks}
use Rattle.elan_phrases.proofs.sort_expressions.sort_span.Goals as goal

-- a sort expression takes a token
pub returns-clause-shorter : goal.returns-clause-shorter
returns-clause-shorter c = omega (arith, sort_shrinks _ _ _ _ _ _ c.in_ok-sort.ensures.read)
