use Rattle.std.proofs.Common.{◌≡◌, ◌≤◌, ◌+◌, length}
use Rattle.elan_demo.specs.Demo as spec
use Rattle.elan_demo.proofs.counts.marks_in.Given as goal

-- the marks so far and those of the items that are left make the whole
abbrev pub invariant-items : goal.invariant-items
invariant-items l = (l.count + spec.marks_in l.left ≡ spec.marks_in l.fn.items) × (l.count + length l.left ≤ length l.fn.items)

abbrev pub decreases-items : goal.decreases-items
decreases-items l = length l.left
