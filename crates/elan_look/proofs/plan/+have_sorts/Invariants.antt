use Rattle.std.proofs.Common.{length}
use Rattle.elan_look.proofs.plan.+have_sorts.Given as goal

abbrev pub decreases-have_sorts : goal.decreases-have_sorts
decreases-have_sorts g l = length l.variables.now
