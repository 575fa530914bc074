use Rattle.std.specs.Prelude.{length}
use Rattle.elan_program.proofs.sound.+goes_on.Given as goal

abbrev pub decreases-goes_on : goal.decreases-goes_on
decreases-goes_on l = length l.others.now
