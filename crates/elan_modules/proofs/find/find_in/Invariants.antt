use Rattle.std.proofs.Common.{◌≡◌, length, drop, ◌+◌}
use Rattle.elan_modules.specs.Modules as spec
use Rattle.elan_modules.proofs.find.find_in.Given as goal

-- it is among the modules that are left, which are those from this number on
abbrev pub invariant-modules : goal.invariant-modules
invariant-modules l =
    (spec.find_in l.text l.«module» l.left l.name ≡ spec.find_in l.text 0 l.text.modules l.name)
    × (l.left ≡ drop l.«module» l.text.modules) × (l.«module» + length l.left ≡ length l.text.modules)

abbrev pub decreases-modules : goal.decreases-modules
decreases-modules l = length l.left
