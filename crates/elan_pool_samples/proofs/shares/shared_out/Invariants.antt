use Rattle.std.specs.Prelude.{◌≡◌, length}
use Rattle.elan_pool_samples.proofs.shares.shared_out.Given as goal

-- there are two seats
abbrev pub invariant-puts : goal.invariant-puts
invariant-puts g l = length l.seats.items ≡ 2
