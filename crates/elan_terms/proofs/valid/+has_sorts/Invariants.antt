use Rattle.std.proofs.Common.{length}
use Rattle.elan_terms.proofs.valid.+has_sorts.Given as goal

abbrev pub decreases-has_sorts : goal.decreases-has_sorts
decreases-has_sorts l = length l.terms.now
