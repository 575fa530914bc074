use Rattle.elan_terms.specs.Weight.{pattern_weight, pattern_weights}
use Rattle.elan_chart_samples.proofs.shown.+tree.Given as goal

abbrev pub decreases-tree_onto : goal.decreases-tree_onto
decreases-tree_onto l = pattern_weight l.tree.now

abbrev pub decreases-trees_onto : goal.decreases-trees_onto
decreases-trees_onto l = pattern_weights l.trees.now
