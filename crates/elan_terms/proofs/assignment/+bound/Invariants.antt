use Rattle.std.proofs.Common.{length}
use Rattle.elan_terms.proofs.assignment.+bound.Given as goal

abbrev pub decreases-bound : goal.decreases-bound
decreases-bound l = length l.variables.now
