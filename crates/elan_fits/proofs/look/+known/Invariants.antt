use Rattle.std.proofs.Common.{length}
use Rattle.elan_fits.proofs.look.+known.Given as goal

abbrev pub decreases-known : goal.decreases-known
decreases-known l = length l.variables.now
