use Rattle.std.specs.Prelude.{length}
use Rattle.elan_program.proofs.patterns.+are_numbered.Given as goal

abbrev pub decreases-are_numbered : goal.decreases-are_numbered
decreases-are_numbered l = length l.found.now
