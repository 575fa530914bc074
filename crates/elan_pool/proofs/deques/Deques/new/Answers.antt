use native.Mathlib.Omega.{arith}
use Rattle.std.proofs.lemmas.List.{length-map}
use Rattle.elan_pool.specs.Deques.{deque_of}
use Rattle.elan_pool.proofs.deques.Deques.new.Goals as goal

pub returns : goal.returns
returns g c =
    let len = c.workers.invariant in
    let most = c.workers.auto._worker-end in
    let over = c.workers-test.false in omega (arith, len, most, over, length-map c.workers.list.items deque_of)
