use Rattle.std.proofs.Common.{◌≡◌, ◌++◌, length}
use Rattle.elan_modules.specs.Replacing as spec
use Rattle.elan_modules.proofs.replacing.counts_of.Given as goal

-- what was counted so far and what is left make the whole
abbrev pub invariant-values : goal.invariant-values
invariant-values l = l.counts.items ++ spec.counts_of l.left ≡ spec.counts_of l.values

abbrev pub decreases-values : goal.decreases-values
decreases-values l = length l.left
