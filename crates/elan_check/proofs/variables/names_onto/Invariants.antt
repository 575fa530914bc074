use Rattle.std.proofs.Common.{◌≡◌, ◌++◌, ◌+◌, ◌<◌, ◌^◌, length}
use Rattle.elan_check.specs.Laid.{variables_at}
use Rattle.elan_check.proofs.variables.names_onto.Given as goal

-- the variables so far and those that are left are all variables; numbers do not run out
abbrev pub invariant-names : goal.invariant-names
invariant-names l =
    (l.out ++ variables_at l.text l.sort (length l.out) l.left ≡ l.fn.out ++ variables_at l.text l.sort (length l.fn.out) l.fn.numbers)
    × (length l.out + length l.left < 2 ^ 32)

abbrev pub decreases-names : goal.decreases-names
decreases-names l = length l.left
