use Rattle.std.proofs.Common.{◌≡◌, ◌++◌, map, drop}
use Rattle.elan_program.specs.Extension as spec
use Rattle.elan_program.proofs.extending.extensions.Given as goal

-- the extensions so far and those of the rules left make all
abbrev pub invariant-loop-rule : goal.invariant-loop-rule
invariant-loop-rule l =
    l.out ++ map (spec.extension l.signature) (drop l.rule-index l.rules) ≡ map (spec.extension l.signature) l.rules
