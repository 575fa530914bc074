use Rattle.std.specs.Prelude.{length}
use Rattle.elan_program.proofs.sound.+are_sound_operators.Given as goal

abbrev pub decreases-are_sound_operators : goal.decreases-are_sound_operators
decreases-are_sound_operators l = length l.operators.now
