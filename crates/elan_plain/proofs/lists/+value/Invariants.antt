use Rattle.std.proofs.Common.{length}
use Rattle.elan_plain.proofs.lists.+value.Given as goal

abbrev pub decreases-value : goal.decreases-value
decreases-value l = length l.terms.now
