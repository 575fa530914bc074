use Rattle.std.proofs.Common.{length}
use Rattle.elan_terms.proofs.pieces.+struck_out.Given as goal

abbrev pub decreases-struck_out : goal.decreases-struck_out
decreases-struck_out l = length l.terms.now
