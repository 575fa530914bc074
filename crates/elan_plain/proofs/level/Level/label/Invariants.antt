use Rattle.std.proofs.Common.{◌≡◌, ◌++◌, drop}
use Rattle.std.specs.List.{flat_map}
use Rattle.elan_plain.specs.Level as spec
use Rattle.elan_plain.proofs.level.Level.label.Given as goal

-- the items so far and those of the rules that are left make all
abbrev pub invariant-loop-number : goal.invariant-loop-number
invariant-loop-number g l =
    l.out ++ flat_map (spec.apply_number l.world l.self.level l.term l.n) (drop l.number-index l.numbers)
    ≡ flat_map (spec.apply_number l.world l.self.level l.term l.n) l.numbers
