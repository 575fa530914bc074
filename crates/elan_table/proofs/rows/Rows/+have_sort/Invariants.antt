use Rattle.std.proofs.Common.{length}
use Rattle.elan_table.proofs.rows.Rows.+have_sort.Given as goal

abbrev pub decreases-have_sort : goal.decreases-have_sort
decreases-have_sort g l = length l.rows.now
