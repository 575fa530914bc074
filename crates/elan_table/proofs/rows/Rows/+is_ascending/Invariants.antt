use Rattle.std.proofs.Common.{length}
use Rattle.elan_table.proofs.rows.Rows.+is_ascending.Given as goal

abbrev pub decreases-is_ascending : goal.decreases-is_ascending
decreases-is_ascending g l = length l.rows.now
