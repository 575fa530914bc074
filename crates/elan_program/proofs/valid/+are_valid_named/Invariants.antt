use Rattle.std.specs.Prelude.{length}
use Rattle.elan_program.proofs.valid.+are_valid_named.Given as goal

abbrev pub decreases-are_valid_named : goal.decreases-are_valid_named
decreases-are_valid_named l = length l.named.now
