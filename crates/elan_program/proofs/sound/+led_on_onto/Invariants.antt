use Rattle.std.specs.Prelude.{length}
use Rattle.elan_program.proofs.sound.+led_on_onto.Given as goal

abbrev pub decreases-led_on_onto : goal.decreases-led_on_onto
decreases-led_on_onto l = length l.leads.now
