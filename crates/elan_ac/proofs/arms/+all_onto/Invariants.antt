use Rattle.std.proofs.Common.{length}
use Rattle.elan_ac.proofs.arms.+all_onto.Given as goal

abbrev pub decreases-all_onto : goal.decreases-all_onto
decreases-all_onto g l = length l.args.now
