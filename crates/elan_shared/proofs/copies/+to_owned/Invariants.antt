use Rattle.elan_terms.specs.Weight.{weight, weights}
use Rattle.elan_shared.proofs.copies.+to_owned.Given as goal

abbrev pub decreases-to_owned : goal.decreases-to_owned
decreases-to_owned l = weight l.term.now

abbrev pub decreases-owned_onto : goal.decreases-owned_onto
decreases-owned_onto l = weights l.terms.now
