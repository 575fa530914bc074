use Rattle.std.proofs.Common.{◌≡◌, ◌++◌, length}
use Rattle.elan_modules.specs.Walking as spec
use Rattle.elan_modules.proofs.progress.marked_onto.Given as goal

-- what was written so far and the bytes that are left make the whole
abbrev pub invariant-bytes : goal.invariant-bytes
invariant-bytes l = l.key.items ++ spec.marked l.left ≡ l.fn.key.items ++ spec.marked l.name

abbrev pub decreases-bytes : goal.decreases-bytes
decreases-bytes l = length l.left
