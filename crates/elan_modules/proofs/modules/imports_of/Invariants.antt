use Rattle.std.proofs.Common.{◌≡◌, ◌++◌, length}
use Rattle.elan_modules.specs.Modules as spec
use Rattle.elan_modules.proofs.modules.imports_of.Given as goal

-- what was found so far and what is left make the whole
abbrev pub invariant-sections : goal.invariant-sections
invariant-sections l =
    l.found ++ spec.imports_of l.text l.replacements.parameters l.replacements.sorts l.left ≡ spec.imports_of l.text l.replacements.parameters l.replacements.sorts l.sections

abbrev pub decreases-sections : goal.decreases-sections
decreases-sections l = length l.left
