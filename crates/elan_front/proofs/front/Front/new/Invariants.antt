use Rattle.std.proofs.Common.{◌≡◌, ◌≤◌, ◌-◌, ◌+◌, length, replicate, None}
use Rattle.elan_front.proofs.front.Front.new.Given as goal

-- so far none, and at most so many
abbrev pub invariant-loop-all : goal.invariant-loop-all
invariant-loop-all g l = (l.all.items ≡ replicate (length l.all.items) None) × (length l.all.items ≤ l.last + 1)

abbrev pub decreases-loop-all : goal.decreases-loop-all
decreases-loop-all g l = l.last + 1 - length l.all.items
