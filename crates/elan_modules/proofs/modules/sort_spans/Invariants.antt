use Rattle.std.proofs.Common.{◌≡◌, ◌++◌, length}
use Rattle.elan_modules.specs.Modules as spec
use Rattle.elan_modules.proofs.modules.sort_spans.Given as goal

-- what was found so far and what is left make the whole
abbrev pub invariant-sections : goal.invariant-sections
invariant-sections l =
    l.found ++ spec.sort_spans l.text l.left ≡ spec.sort_spans l.text l.sections

abbrev pub decreases-sections : goal.decreases-sections
decreases-sections l = length l.left
