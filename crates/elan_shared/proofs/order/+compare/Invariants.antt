use Rattle.elan_terms.specs.Weight.{weight, weights}
use Rattle.elan_shared.proofs.order.+compare.Given as goal

abbrev pub decreases-compare : goal.decreases-compare
decreases-compare l = weight l.a.now

abbrev pub decreases-compare_all : goal.decreases-compare_all
decreases-compare_all l = weights l.xs.now
