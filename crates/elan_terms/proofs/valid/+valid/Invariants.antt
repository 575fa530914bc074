use Rattle.elan_terms.specs.Weight.{weight, weights}
use Rattle.elan_terms.proofs.valid.+valid.Given as goal

abbrev pub decreases-is_valid : goal.decreases-is_valid
decreases-is_valid l = weight l.term.now

abbrev pub decreases-are_valid : goal.decreases-are_valid
decreases-are_valid l = weights l.terms.now
