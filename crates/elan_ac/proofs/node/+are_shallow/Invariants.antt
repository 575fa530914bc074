use Rattle.std.proofs.Common.{length}
use Rattle.elan_ac.proofs.node.+are_shallow.Given as goal

abbrev pub decreases-are_shallow : goal.decreases-are_shallow
decreases-are_shallow g l = length l.rows.now
