use Rattle.std.proofs.Common.{◌≡◌, ◌++◌, length}
use Rattle.elan_modules.specs.Modules as spec
use Rattle.elan_modules.proofs.modules.add_operators.Given as goal

-- what was found so far and what is left make the whole
abbrev pub invariant-operators : goal.invariant-operators
invariant-operators l =
    l.found ++ spec.operator_sorts l.left ≡ l.fn.found ++ spec.operator_sorts l.operators

abbrev pub decreases-operators : goal.decreases-operators
decreases-operators l = length l.left
