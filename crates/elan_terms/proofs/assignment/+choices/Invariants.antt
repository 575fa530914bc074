use Rattle.std.proofs.Common.{length}
use Rattle.elan_terms.proofs.assignment.+choices.Given as goal

abbrev pub decreases-choices : goal.decreases-choices
decreases-choices l = length l.variables.now
