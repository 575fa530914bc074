use Rattle.elan_builtin.proofs.RangeLemmas.{quotient-is}
use Rattle.elan_builtin.proofs.reducing.quotient.Goals as goal

pub returns-in-Some : goal.returns-in-Some
returns-in-Some c = quotient-is c.args.x c.args.y c.in-Some.z _ c.ranges.x c.ranges.y c.ranged.ensures c.in-Some.ensures.0 c.in-Some.ensures.1
