use Rattle.std.proofs.Common.{◌≡◌, ◌++◌, length}
use Rattle.elan_modules.specs.Modules as spec
use Rattle.elan_modules.proofs.modules.add_arguments.Given as goal

-- what was found so far and what is left make the whole
abbrev pub invariant-references : goal.invariant-references
invariant-references l =
    l.found ++ spec.argument_sorts l.text l.left ≡ l.fn.found ++ spec.argument_sorts l.text l.references

abbrev pub decreases-references : goal.decreases-references
decreases-references l = length l.left
