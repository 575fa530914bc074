use Rattle.elan_terms.specs.Weight.{weight, weights}
use Rattle.elan_terms.proofs.settled.+canonical.Given as goal

abbrev pub decreases-is_canonical : goal.decreases-is_canonical
decreases-is_canonical l = weight l.term.now

abbrev pub decreases-are_canonical : goal.decreases-are_canonical
decreases-are_canonical l = weights l.terms.now
