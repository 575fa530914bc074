use Rattle.std.proofs.Common.{◌≡◌, ◌++◌, length}
use Rattle.elan_modules.proofs.progress.copied.Given as goal

-- what was copied so far and what is left make the whole
abbrev pub invariant-names : goal.invariant-names
invariant-names l = l.copy ++ l.left ≡ l.names

abbrev pub decreases-names : goal.decreases-names
decreases-names l = length l.left
