use Rattle.std.proofs.Common.{◌≤◌, ◌-◌, length}
use Rattle.elan_table.proofs.table.Table.new.Given as goal

abbrev pub invariant-loop-shards : goal.invariant-loop-shards
invariant-loop-shards g l = length l.shards.items ≤ 64

abbrev pub decreases-loop-shards : goal.decreases-loop-shards
decreases-loop-shards g l = 64 - length l.shards.items
