use Rattle.std.proofs.Common.{◌≡◌, length}
use Rattle.std.specs.List.{flat_map}
use Rattle.elan_plain.specs.Engine.{first}
use Rattle.elan_plain.specs.Level as spec
use Rattle.elan_plain.proofs.level.Level.first_on.Given as goal

abbrev pub decreases-loop-walk : goal.decreases-loop-walk
decreases-loop-walk g l = length l.walk

-- the first item of the matches that are left is that of all
abbrev pub invariant-loop-walk : goal.invariant-loop-walk
invariant-loop-walk g l =
    first (flat_map (spec.taken_up l.world l.self.level l.rule l.n) l.walk)
    ≡ first (flat_map (spec.taken_up l.world l.self.level l.rule l.n) l.initial.walk)
