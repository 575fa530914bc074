use Rattle.std.proofs.Common.{◌≡◌, length}
use Rattle.std.specs.List.{list_all}
use Rattle.elan_clauses.specs.Offered.{is_few}
use Rattle.elan_check.proofs.small.are_few.Given as goal

-- those that are left decide
abbrev pub invariant-sections : goal.invariant-sections
invariant-sections l = list_all is_few l.left ≡ list_all is_few l.sections

abbrev pub decreases-sections : goal.decreases-sections
decreases-sections l = length l.left
