use Rattle.std.proofs.Common.{◌≡◌}
use Rattle.elan_alone.proofs.alone.finish.Given as goal

-- the root and the limit stay
abbrev pub invariant-loop : goal.invariant-loop
invariant-loop g l = (l.tree.root ≡ l.fn.tree.root) × (l.tree.limit ≡ l.fn.tree.limit)
