use Rattle.std.proofs.Common.{length}
use Rattle.elan_fits.proofs.task.Task.+values_onto.Given as goal

abbrev pub decreases-values_onto : goal.decreases-values_onto
decreases-values_onto l = length l.places.now
