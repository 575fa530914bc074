use Rattle.std.proofs.Common.{◌+◌, ◌*◌}
use Rattle.elan_terms.specs.Weight.{weight, weights}
use Rattle.elan_table.specs.Rows.{terms}
use Rattle.elan_table.proofs.rows.Rows.+compare.Given as goal

abbrev pub decreases-compare : goal.decreases-compare
decreases-compare g l = 2 * weight l.a.now.value + 1

abbrev pub decreases-compare_nodes : goal.decreases-compare_nodes
decreases-compare_nodes g l = 2 * weight l.a.now.value

abbrev pub decreases-compare_all : goal.decreases-compare_all
decreases-compare_all g l = 2 * weights (terms l.xs.now) + 1
