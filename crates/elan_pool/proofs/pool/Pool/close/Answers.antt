use Rattle.std.proofs.Common.{◌≡◌, ◌+◌, ◌++◌}
use native.Mathlib.Omega.{arith}
use Rattle.elan_pool.specs.Balance.{weigh, numbers}
use Rattle.elan_pool.specs.Seats.{all_taken}
use Rattle.elan_pool.proofs.Balances.{weigh-append}
use Rattle.elan_pool.proofs.Sums.{seat_puts}
use Rattle.elan_pool.proofs.Taken.{seats_take}
use Rattle.elan_pool.proofs.pool.Pool.close.Goals as goal

pub returns : goal.returns
returns g c = λ h. let d = c.in_ok-left.ensures h in
    omega (arith, d, seat_puts h c.args.seats.items, seats_take h c.args.seats.items, weigh-append h (all_taken c.args.seats.items) (numbers c.in_ok-left.left.items))
