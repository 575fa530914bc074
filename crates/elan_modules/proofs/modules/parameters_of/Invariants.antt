use Rattle.std.proofs.Common.{◌≡◌, ◌++◌, drop}
use Rattle.elan_modules.specs.Modules as spec
use Rattle.elan_modules.proofs.modules.parameters_of.Given as goal

-- what was found so far and what is left make the whole
abbrev pub invariant-numbers : goal.invariant-numbers
invariant-numbers l =
    l.found ++ spec.parameters_of l.text (drop l.number-index l.numbers) ≡ spec.parameters_of l.text l.numbers
