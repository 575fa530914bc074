use Rattle.elan_terms.specs.Weight.{weight, weights}
use Rattle.elan_plain.proofs.lists.+pattern.Given as goal

abbrev pub decreases-pattern_of : goal.decreases-pattern_of
decreases-pattern_of l = weight l.term.now

abbrev pub decreases-patterns_onto : goal.decreases-patterns_onto
decreases-patterns_onto l = weights l.terms.now
