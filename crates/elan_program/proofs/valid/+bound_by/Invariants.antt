use Rattle.std.specs.Prelude.{length}
use Rattle.elan_program.proofs.valid.+bound_by.Given as goal

abbrev pub decreases-bound_by : goal.decreases-bound_by
decreases-bound_by l = length l.clauses.now
