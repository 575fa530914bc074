use Rattle.std.proofs.Common.{◌≡◌, ◌++◌, length}
use Rattle.elan_modules.specs.Modules as spec
use Rattle.elan_modules.proofs.modules.add_references.Given as goal

-- what was found so far and what is left make the whole
abbrev pub invariant-spans : goal.invariant-spans
invariant-spans l =
    l.found ++ spec.references_of l.text l.replacements.parameters l.replacements.sorts l.left ≡ l.fn.found ++ spec.references_of l.text l.replacements.parameters l.replacements.sorts l.spans

abbrev pub decreases-spans : goal.decreases-spans
decreases-spans l = length l.left
