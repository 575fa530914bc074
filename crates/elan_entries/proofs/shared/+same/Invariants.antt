use Rattle.elan_terms.specs.Weight.{pattern_weight, pattern_weights}
use Rattle.elan_entries.proofs.shared.+same.Given as goal

abbrev pub decreases-same : goal.decreases-same
decreases-same l = pattern_weight l.a.now

abbrev pub decreases-same_all : goal.decreases-same_all
decreases-same_all l = pattern_weights l.xs.now
