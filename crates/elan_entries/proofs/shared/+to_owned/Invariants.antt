use Rattle.elan_terms.specs.Weight.{pattern_weight, pattern_weights}
use Rattle.elan_entries.proofs.shared.+to_owned.Given as goal

abbrev pub decreases-to_owned : goal.decreases-to_owned
decreases-to_owned l = pattern_weight l.tree.now

abbrev pub decreases-owned_onto : goal.decreases-owned_onto
decreases-owned_onto l = pattern_weights l.trees.now
