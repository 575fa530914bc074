use Rattle.std.proofs.Common.{◌≡◌, length}
use Rattle.std.specs.List.{list_all}
use Rattle.elan_clauses.specs.Offered.{has_few}
use Rattle.elan_check.proofs.small.have_few.Given as goal

-- those that are left decide
abbrev pub invariant-definitions : goal.invariant-definitions
invariant-definitions l = list_all has_few l.left ≡ list_all has_few l.definitions

abbrev pub decreases-definitions : goal.decreases-definitions
decreases-definitions l = length l.left
