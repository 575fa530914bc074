use Rattle.std.proofs.Common.{◌≡◌, drop}
use Rattle.std.specs.List.{flat_map}
use Rattle.elan_plain.specs.Engine.{first}
use Rattle.elan_plain.specs.Level as spec
use Rattle.elan_plain.proofs.level.Level.tried.Given as goal

-- the first item of the rules that are left is that of all
abbrev pub invariant-loop-rule : goal.invariant-loop-rule
invariant-loop-rule g l =
    first (flat_map (spec.apply_on l.world l.self.level l.term l.n) (drop l.rule-index l.rules))
    ≡ first (flat_map (spec.apply_on l.world l.self.level l.term l.n) l.rules)
