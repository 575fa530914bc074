use Rattle.std.proofs.Common.{length}
use Rattle.elan_table.proofs.application.+feed.Given as goal

abbrev pub decreases-feed : goal.decreases-feed
decreases-feed g l = length l.rows.now
