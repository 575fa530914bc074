use Rattle.std.proofs.Common.{◌≡◌, ◌∙◌, length, ap}
use native.Mathlib.Omega.{arith}
use Rattle.std.specs.List.{slice_get}
use Rattle.elan_pool.specs.Deques.{deque_of}
use Rattle.elan_pool.specs.Making.{IsNewDock}
use Rattle.elan_pool.proofs.Makings.{halfway_begins, halfway_steps, halfway_seam}
use Rattle.elan_pool.proofs.making.docks_of.Goals as goal

pub deques-init : goal.deques-init
deques-init g c =
    let all = g.P.PoolName.deques in
    halfway_begins deque_of (IsNewDock (length all) 0) all c.args.deques.items c.in_ok-docks.docks.items
    c.requires.name c.requires.few c.in_ok-docks.ensures.items

pub named-requires : goal.named-requires
named-requires g c =
    let all = g.P.PoolName.deques in
    let left = c.pop.new.self in
    let stored = left.ok in
    let len = c.len-in-Some.ensures in
    let number : c.len-in-Some.result ≡ length left.items = omega (arith, stored, len) in
    ap (slice_get all) number
    ∙ halfway_seam deque_of (IsNewDock (length all) 0) all c.deques.deques.items left.items c.in-Some.new
    c.deques.docks.items c.deques.invariant c.in-Some.ensures.items

pub deques-preserved : goal.deques-preserved
deques-preserved g c =
    let all = g.P.PoolName.deques in
    let left = c.pop.new.self in
    let stored = left.ok in
    let len = c.len-in-Some.ensures in
    let number = c.named.ensures.number in
    halfway_steps deque_of (IsNewDock (length all) 0) all c.deques.deques.items left.items c.in-Some.new
    c.deques.docks.items c.push.new.self.items c.named.result
    c.deques.invariant c.in-Some.ensures.items c.in_ok-push.ensures.items
    (λ at. (omega (arith, number, len, stored, at), c.named.ensures.new, c.named.ensures.room))
