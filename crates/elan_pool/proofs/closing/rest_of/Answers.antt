use Rattle.std.proofs.Common.{◌≡◌, ℕ, ◌+◌, ◌*◌, ◌<◌, ◌≤◌, ◌∙◌, [], ◌∷◌, ◌++◌, None, Some, length, length-append, length-set, set, ap, refl, sym, subst}
use native.Mathlib.Omega.{arith}
use Rattle.std.proofs.lemmas.Option.{slice_get_read, slice_get_within}
use Rattle.std.specs.List.{slice_get}
use Rattle.crossbeam_deque.specs.Handles.{view, worker_view}
use Rattle.elan_pool.specs.declared.rule.Tally.{Tally}
use Rattle.elan_pool.specs.Balance.{weigh, numbers}
use Rattle.elan_pool.specs.Making.{Each}
use Rattle.elan_pool.specs.Closing.{IsAdditive, IsHome, IsBack, slot_sum, dock_sum, side_sum, row_sum, seat_sum}
use Rattle.elan_pool.proofs.Balances.{weigh-append}
use Rattle.elan_pool.proofs.Places.{each_snoc, each_set}
use Rattle.elan_pool.proofs.Sums.{dock_sum-snoc, side_sum-snoc, row_sum-snoc, seat_sum-snoc, dock_sum-set, all_back, last_whole, seat_parts, seat_puts}
use Rattle.elan_pool.proofs.closing.rest_of.Goals as goal

pub drained-requires : goal.drained-requires
drained-requires g c =
    let back = c.gather_all.ensures.sum (λ v. v.parts) (λ v w. refl) in
    let all = c.in_ok-docks.ensures.sum (λ v. v.parts) in
    let m = c.gather_all.ensures.len in
    let n = c.in_ok-docks.ensures.len in
    let k = c.requires in omega (arith, back, all, m, n, k, seat_parts c.args.seats.items)

pub returns : goal.returns
returns g c =
    λ h.
    let put : Tally → ℕ = λ v. weigh h v.put in
    let taken : Tally → ℕ = λ v. weigh h v.taken in
    let p = c.gather_all.ensures.sum put (λ v w. weigh-append h v.put w.put) in
    let t = c.gather_all.ensures.sum taken (λ v w. weigh-append h v.taken w.taken) in
    let q = c.in_ok-docks.ensures.sum put in
    let u = c.in_ok-docks.ensures.sum taken in
    let d = c.in_ok-left.ensures h in omega (arith, p, t, q, u, d)
