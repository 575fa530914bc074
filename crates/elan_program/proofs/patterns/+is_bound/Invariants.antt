use Rattle.std.specs.Prelude.{length}
use Rattle.elan_program.proofs.patterns.+is_bound.Given as goal

abbrev pub decreases-is_bound : goal.decreases-is_bound
decreases-is_bound l = length l.bound.now
