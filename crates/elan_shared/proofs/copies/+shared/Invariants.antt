use Rattle.elan_terms.specs.Weight.{weight, weights}
use Rattle.elan_shared.proofs.copies.+shared.Given as goal

abbrev pub decreases-shared : goal.decreases-shared
decreases-shared l = weight l.term.now

abbrev pub decreases-shared_onto : goal.decreases-shared_onto
decreases-shared_onto l = weights l.terms.now
