use Rattle.std.proofs.Common.{◌≡◌, ◌++◌, reverse, length}
use Rattle.elan_terms.proofs.canonical.turned.Given as goal

-- what was taken, and what is left turned, are all of them turned
abbrev pub invariant-loop-term : goal.invariant-loop-term
invariant-loop-term l = l.out.items ++ reverse l.left ≡ reverse l.fn.terms

abbrev pub decreases-loop-term : goal.decreases-loop-term
decreases-loop-term l = length l.left
