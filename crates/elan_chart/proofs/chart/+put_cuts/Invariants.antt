use Rattle.std.proofs.Common.{length}
use Rattle.elan_chart.proofs.chart.+put_cuts.Given as goal

abbrev pub decreases-put_cuts : goal.decreases-put_cuts
decreases-put_cuts l = length l.row.now
