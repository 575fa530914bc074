use Rattle.std.specs.Prelude.{length}
use Rattle.elan_program.proofs.sound.+holes.Given as goal

abbrev pub decreases-holes : goal.decreases-holes
decreases-holes l = length l.pieces.now
