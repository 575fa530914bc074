use Rattle.std.proofs.Common.{length, ◌≤◌, ◌-◌}
use Rattle.elan_table.proofs.rows.free.Given as goal

abbrev pub invariant-loop-slots : goal.invariant-loop-slots
invariant-loop-slots g l = length l.slots.items ≤ l.many

abbrev pub decreases-loop-slots : goal.decreases-loop-slots
decreases-loop-slots g l = l.many - length l.slots.items
