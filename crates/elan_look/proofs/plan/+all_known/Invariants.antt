use Rattle.std.proofs.Common.{length}
use Rattle.elan_look.proofs.plan.+all_known.Given as goal

abbrev pub decreases-all_known : goal.decreases-all_known
decreases-all_known g l = length l.rows.now
