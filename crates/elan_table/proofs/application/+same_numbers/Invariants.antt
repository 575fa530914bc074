use Rattle.std.proofs.Common.{length}
use Rattle.elan_table.proofs.application.+same_numbers.Given as goal

abbrev pub decreases-same_numbers : goal.decreases-same_numbers
decreases-same_numbers g l = length l.some.now
