use Rattle.std.proofs.Common.{length}
use Rattle.elan_table.proofs.rows.Rows.+has_none_headed.Given as goal

abbrev pub decreases-has_none_headed : goal.decreases-has_none_headed
decreases-has_none_headed g l = length l.rows.now
