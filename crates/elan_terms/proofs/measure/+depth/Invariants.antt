use Rattle.elan_terms.specs.Weight.{weight, weights}
use Rattle.elan_terms.proofs.measure.+depth.Given as goal

abbrev pub decreases-depth : goal.decreases-depth
decreases-depth l = weight l.term.now

abbrev pub decreases-greatest : goal.decreases-greatest
decreases-greatest l = weights l.terms.now
