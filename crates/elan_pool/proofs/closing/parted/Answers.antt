use Rattle.std.proofs.Common.{◌≡◌, ℕ, ◌+◌, ◌*◌, ◌<◌, ◌≤◌, ◌∙◌, [], ◌∷◌, ◌++◌, None, Some, length, length-append, length-set, set, ap, refl, sym, subst}
use native.Mathlib.Omega.{arith}
use Rattle.std.proofs.lemmas.Option.{slice_get_read, slice_get_within}
use Rattle.std.specs.List.{slice_get}
use Rattle.crossbeam_deque.specs.Handles.{view, worker_view}
use Rattle.elan_pool.specs.declared.rule.Tally.{Tally}
use Rattle.elan_pool.specs.Balance.{weigh, numbers}
use Rattle.elan_pool.specs.Making.{Each}
use Rattle.elan_pool.specs.Closing.{IsAdditive, IsHome, IsBack, slot_sum, dock_sum, side_sum, row_sum, seat_sum}
use Rattle.elan_pool.proofs.Places.{each_snoc, each_set}
use Rattle.elan_pool.proofs.Sums.{dock_sum-snoc, side_sum-snoc, row_sum-snoc, seat_sum-snoc, dock_sum-set, all_back, last_whole, seat_parts, seat_puts}
use Rattle.elan_pool.proofs.closing.parted.Goals as goal

pub seats-preserved : goal.seats-preserved
seats-preserved g c =
    let i = c.seats.invariant in
    let ones = i.2 in
    let one = c.come_back.ensures.sum (λ v. 1) in
    let less = ap length c.in-Some.ensures.items ∙ length-append c.pop.new.self.items (c.in-Some.seat ∷ []) in (
      c.come_back.ensures.len ∙ i.0,
      c.come_back.ensures.home,
      omega (arith, ones, one, less),
      λ f.
          let all = i.3 f in
          let d = c.come_back.ensures.sum f in
          let r = ap (row_sum f) c.in_ok-push.ensures.items in
          let s = ap (seat_sum f) c.in-Some.ensures.items in
          omega (arith, all, d, r, s, row_sum-snoc f c.seats.rows.items c.in-Some.seat.sides, seat_sum-snoc f c.pop.new.self.items c.in-Some.seat),
    )

pub returns-clause-back : goal.returns-clause-back
returns-clause-back g c =
    let i = c.seats.invariant in
    let ones = i.2 in
    let len = i.0 in
    let none = c.in_default.ensures.cases.0 in
    let same = c.seats.seats.ok.0 in
    let all = c.requires in all_back c.seats.docks.items i.1 (omega (arith, ones, len, none, same, all))
