use Rattle.elan_terms.specs.Weight.{pattern_weight, pattern_weights}
use Rattle.elan_terms.proofs.occurrence.+occurrences.Given as goal

abbrev pub decreases-occurrences_onto : goal.decreases-occurrences_onto
decreases-occurrences_onto l = pattern_weight l.pattern.now

abbrev pub decreases-all_occurrences_onto : goal.decreases-all_occurrences_onto
decreases-all_occurrences_onto l = pattern_weights l.patterns.now
