use Rattle.std.proofs.Common.{◌≡◌, length}
use Rattle.elan_terms.specs.Match.{new_in}
use Rattle.elan_clauses.proofs.bound_variables.BoundVariables.bind_all.Given as goal

-- the variables that are left, bound behind those so far, make the whole
abbrev pub invariant-variables : goal.invariant-variables
invariant-variables l = new_in l.self l.left ≡ new_in l.fn.self l.found

abbrev pub decreases-variables : goal.decreases-variables
decreases-variables l = length l.left
