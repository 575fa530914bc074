use Rattle.elan_plain.specs.Closures.{calls}
use Rattle.elan_plain.proofs.closures.+resolved.Given as goal

abbrev pub decreases-resolved : goal.decreases-resolved
decreases-resolved l = calls l.actuals.now
