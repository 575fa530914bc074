use Rattle.std.proofs.Common.{◌≡◌, ◌++◌, drop}
use Rattle.elan_plain.specs.Level as spec
use Rattle.elan_plain.proofs.level.Level.finished.Given as goal

-- the items so far and those of the entries that are left make all
abbrev pub invariant-loop-entry : goal.invariant-loop-entry
invariant-loop-entry g l =
    l.out ++ spec.finished l.world l.self.level l.rule (drop l.entry-index l.entry-items) ≡ spec.finished l.world l.self.level l.rule l.entry-items
