use Rattle.std.proofs.Common.{◌≡◌, ◌++◌, drop}
use Rattle.std.specs.List.{flat_map}
use Rattle.elan_plain.specs.Level as spec
use Rattle.elan_plain.proofs.level.Level.all_taken_up.Given as goal

-- the items so far and those of the matches that are left make all
abbrev pub invariant-loop-values : goal.invariant-loop-values
invariant-loop-values g l =
    l.out ++ flat_map (spec.taken_up l.world l.self.level l.rule l.n) (drop l.values-index l.values-items)
    ≡ flat_map (spec.taken_up l.world l.self.level l.rule l.n) l.values-items
