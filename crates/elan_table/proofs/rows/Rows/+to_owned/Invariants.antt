use Rattle.elan_terms.specs.Weight.{weight, weights}
use Rattle.elan_table.specs.Rows.{terms}
use Rattle.elan_table.proofs.rows.Rows.+to_owned.Given as goal

abbrev pub decreases-to_owned : goal.decreases-to_owned
decreases-to_owned g l = weight l.term.now.value

abbrev pub decreases-owned_onto : goal.decreases-owned_onto
decreases-owned_onto g l = weights (terms l.rows.now)
