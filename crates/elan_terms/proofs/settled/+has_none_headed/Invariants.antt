use Rattle.std.proofs.Common.{length}
use Rattle.elan_terms.proofs.settled.+has_none_headed.Given as goal

abbrev pub decreases-has_none_headed : goal.decreases-has_none_headed
decreases-has_none_headed l = length l.terms.now
