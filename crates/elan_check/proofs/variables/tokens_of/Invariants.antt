use Rattle.std.proofs.Common.{◌≡◌, ◌++◌, length}
use Rattle.elan_check.specs.Laid.{tokens_of}
use Rattle.elan_check.proofs.variables.tokens_of.Given as goal

-- the tokens so far and those that are left are all tokens
abbrev pub invariant-declarations : goal.invariant-declarations
invariant-declarations l = l.out ++ tokens_of l.left ≡ tokens_of l.vars

abbrev pub decreases-declarations : goal.decreases-declarations
decreases-declarations l = length l.left
