use Rattle.std.proofs.Common.{◌≡◌, ◌≤◌, ◌+◌, length}
use Rattle.elan_modules.specs.Sorts as spec
use Rattle.elan_modules.proofs.sorts.separators_in.Given as goal

-- the separators so far and those of the bytes that are left make the whole
abbrev pub invariant-bytes : goal.invariant-bytes
invariant-bytes l =
    (l.count + spec.separators l.left ≡ spec.separators l.fn.written) × (l.count + length l.left ≤ length l.fn.written)

abbrev pub decreases-bytes : goal.decreases-bytes
decreases-bytes l = length l.left
