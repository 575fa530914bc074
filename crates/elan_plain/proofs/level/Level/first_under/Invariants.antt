use Rattle.std.proofs.Common.{◌≡◌, drop}
use Rattle.std.specs.List.{flat_map}
use Rattle.elan_plain.specs.Engine.{first}
use Rattle.elan_plain.specs.Level as spec
use Rattle.elan_plain.proofs.level.Level.first_under.Given as goal

-- the first item of the matches that are left is that of all
abbrev pub invariant-loop-values : goal.invariant-loop-values
invariant-loop-values g l =
    first (flat_map (spec.taken_up l.world l.self.level l.rule l.n) (drop l.values-index l.all))
    ≡ first (flat_map (spec.taken_up l.world l.self.level l.rule l.n) l.all)
