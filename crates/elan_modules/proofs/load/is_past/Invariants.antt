use Rattle.std.proofs.Common.{◌≡◌, ◌+◌, length}
use Rattle.elan_modules.specs.Visits as spec
use Rattle.elan_modules.proofs.load.is_past.Given as goal

-- the room that is left, the texts that took theirs and the bytes that come make the whole
abbrev pub invariant-texts : goal.invariant-texts
invariant-texts l = l.room + spec.total l.texts + l.more ≡ spec.most_bytes + spec.total l.left

abbrev pub decreases-texts : goal.decreases-texts
decreases-texts l = length l.left
