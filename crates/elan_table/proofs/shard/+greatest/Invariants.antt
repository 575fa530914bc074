use Rattle.std.proofs.Common.{length}
use Rattle.elan_table.proofs.shard.+greatest.Given as goal

abbrev pub decreases-greatest : goal.decreases-greatest
decreases-greatest g l = length l.args.now
