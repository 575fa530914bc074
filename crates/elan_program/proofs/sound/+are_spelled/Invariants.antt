use Rattle.std.specs.Prelude.{length}
use Rattle.elan_program.proofs.sound.+are_spelled.Given as goal

abbrev pub decreases-are_spelled : goal.decreases-are_spelled
decreases-are_spelled l = length l.pieces.now
