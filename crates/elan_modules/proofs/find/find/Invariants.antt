use Rattle.std.proofs.Common.{◌≡◌, length, drop, ◌+◌}
use Rattle.elan_modules.specs.Modules as spec
use Rattle.elan_modules.proofs.find.find.Given as goal

-- it is among the texts that are left, which are those from this number on
abbrev pub invariant-texts : goal.invariant-texts
invariant-texts l =
    (spec.find l.text l.left l.name ≡ spec.find 0 l.texts l.name) × (l.left ≡ drop l.text l.texts)
    × (l.text + length l.left ≡ length l.texts)

abbrev pub decreases-texts : goal.decreases-texts
decreases-texts l = length l.left
