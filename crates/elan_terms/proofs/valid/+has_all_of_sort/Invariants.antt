use Rattle.std.proofs.Common.{length}
use Rattle.elan_terms.proofs.valid.+has_all_of_sort.Given as goal

abbrev pub decreases-has_all_of_sort : goal.decreases-has_all_of_sort
decreases-has_all_of_sort l = length l.terms.now
