use Rattle.std.proofs.Common.{◌≡◌, ◌++◌, length}
use Rattle.elan_modules.specs.Walking as spec
use Rattle.elan_modules.proofs.progress.key_of.Given as goal

-- what was written so far and the arguments that are left make the whole
abbrev pub invariant-names : goal.invariant-names
invariant-names l = l.key.items ++ spec.marked_all l.left ≡ spec.key_of l.name l.args

abbrev pub decreases-names : goal.decreases-names
decreases-names l = length l.left
