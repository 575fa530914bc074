use Rattle.std.proofs.Common.{ap, arith, length}
use Rattle.elan_tree.proofs.Counting.{fresh_le}
use Rattle.elan_tree.proofs.advance.tell.Goals as goal

pub cut_count-requires-clause-opened : goal.cut_count-requires-clause-opened
cut_count-requires-clause-opened g c =
    omega (arith, c.len.ensures, c.in_ok-opened.opened.ok.0, ap length c.in_ok-opened.ensures, c.in_ok-after.ensures, fresh_le c.args.node.now)
