use Rattle.std.proofs.Common.{◌≡◌, length}
use Rattle.elan_modules.specs.Modules as spec
use Rattle.elan_modules.proofs.modules.first_long.Given as goal

-- the first one is among those that are left
abbrev pub invariant-spans : goal.invariant-spans
invariant-spans l =
    spec.first_long l.text l.replacements.parameters l.replacements.sorts l.left ≡ spec.first_long l.text l.replacements.parameters l.replacements.sorts l.spans

abbrev pub decreases-spans : goal.decreases-spans
decreases-spans l = length l.left
