use Rattle.std.specs.Prelude.{length}
use Rattle.elan_program.proofs.sound.+leads_onto.Given as goal

abbrev pub decreases-leads_onto : goal.decreases-leads_onto
decreases-leads_onto l = length l.operators.now
