use Rattle.elan_builtin.proofs.RangeLemmas.{remainder-is}
use Rattle.elan_builtin.proofs.reducing.remainder.Goals as goal

pub returns : goal.returns
returns c = remainder-is c.args.x c.args.y c.wrapping_rem.result _ c.ranges.x c.ranges.y (record { sfits = c.wrapping_rem.type_inv }) c.ranged.ensures c.if-y-eq0.false c.wrapping_rem.ensures
