use Rattle.std.proofs.Common.{length}
use Rattle.elan_shared.proofs.tree.+greatest.Given as goal

abbrev pub decreases-greatest : goal.decreases-greatest
decreases-greatest l = length l.terms.now
