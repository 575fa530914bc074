use Rattle.std.proofs.Common.{length}
use Rattle.elan_table.proofs.application.+copies_onto.Given as goal

abbrev pub decreases-copies_onto : goal.decreases-copies_onto
decreases-copies_onto g l = length l.args.now
