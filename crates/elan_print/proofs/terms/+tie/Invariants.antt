use Rattle.elan_terms.specs.Weight.{weight, weights}
use Rattle.elan_print.proofs.terms.+tie.Given as goal

abbrev pub decreases-tie_in : goal.decreases-tie_in
decreases-tie_in l = weight l.term.now

abbrev pub decreases-tie_inside : goal.decreases-tie_inside
decreases-tie_inside l = weights l.args.now
