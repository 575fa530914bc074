use Rattle.std.proofs.Common.{length}
use Rattle.elan_fits.proofs.strike.+strike_each.Given as goal

abbrev pub decreases-strike_each : goal.decreases-strike_each
decreases-strike_each l = length l.terms.now
