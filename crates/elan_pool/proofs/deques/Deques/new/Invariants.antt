use Rattle.std.specs.Prelude.{◌≡◌, length}
use Rattle.elan_pool.proofs.deques.Deques.new.Given as goal

-- one for each worker so far
abbrev pub invariant-workers : goal.invariant-workers
invariant-workers g l = length l.list.items ≡ l._worker
