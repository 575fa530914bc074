use Rattle.std.proofs.Common.{◌≡◌, ◌++◌, drop}
use Rattle.std.specs.List.{flat_map}
use Rattle.elan_program.specs.Extension as spec
use Rattle.elan_program.proofs.extending.unlabelled.Given as goal

-- the rules so far and those that the rules left add make all
abbrev pub invariant-loop-rule : goal.invariant-loop-rule
invariant-loop-rule l =
    l.out ++ flat_map (spec.tried_by l.parts.signature) (drop l.rule-index l.rule-items) ≡ flat_map (spec.tried_by l.parts.signature) l.rule-items
