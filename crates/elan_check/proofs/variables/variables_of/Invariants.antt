use Rattle.std.proofs.Common.{◌≡◌, ◌+◌, ◌<◌, ◌^◌, [], length}
use Rattle.elan_check.specs.Laid.{seen, variables_of, tokens_of}
use Rattle.elan_check.proofs.variables.variables_of.Given as goal

-- what is left decides behind the variables so far; numbers do not run out
abbrev pub invariant-declarations : goal.invariant-declarations
invariant-declarations l =
    (variables_of l.sorts.signature.now (seen l.site) l.out l.left ≡ variables_of l.sorts.signature.now (seen l.site) [] l.vars)
    × (length l.out + length (tokens_of l.left) < 2 ^ 32)

abbrev pub decreases-declarations : goal.decreases-declarations
decreases-declarations l = length l.left
