use Rattle.std.proofs.Common.{◌≡◌, ℕ, ◌+◌, ◌*◌, ◌<◌, ◌≤◌, ◌∙◌, [], ◌∷◌, ◌++◌, None, Some, length, length-append, length-set, set, ap, refl, sym, subst}
use native.Mathlib.Omega.{arith}
use Rattle.std.proofs.lemmas.Option.{slice_get_read, slice_get_within}
use Rattle.std.specs.List.{slice_get}
use Rattle.crossbeam_deque.specs.Handles.{view, worker_view}
use Rattle.elan_pool.specs.declared.rule.Tally.{Tally}
use Rattle.elan_pool.specs.Balance.{weigh, numbers}
use Rattle.elan_pool.specs.Making.{Each}
use Rattle.elan_pool.specs.Closing.{IsAdditive, IsHome, IsBack, slot_sum, dock_sum, side_sum, row_sum, seat_sum}
use Rattle.elan_pool.proofs.Places.{each_snoc, each_set}
use Rattle.elan_pool.proofs.Sums.{dock_sum-snoc, side_sum-snoc, row_sum-snoc, seat_sum-snoc, dock_sum-set, all_back, last_whole, seat_parts, seat_puts}
use Rattle.elan_pool.proofs.closing.gather.Goals as goal

pub sides-preserved : goal.sides-preserved
sides-preserved g c =
    let i = c.sides.invariant in
    let docks = c.sides.docks.items in
    let number = c.in-Some.side.number in
    let within = slice_get_within g.P.PoolName.deques number _ c.in-Some.side.at in
    let len = c.requires.len in
    let same = i.0 in
    let at = slice_get_read docks (length docks) number c.index_mut.result.now refl (omega (arith, within, len, same)) c.index_mut.ensures.value in (
      length-set docks number c.take_back.new.slot ∙ i.0,
      each_set IsBack IsBack docks number c.take_back.new.slot i.1 (λ j y away h. h) c.take_back.ensures.back,
      λ f add.
          let all = i.2 f add in
          let d = dock_sum-set f docks number c.index_mut.result.now c.take_back.new.slot at in
          let k = c.take_back.ensures.sum f add in
          let s = ap (side_sum f) c.in-Some.ensures.items in
          omega (arith, all, d, k, s, side_sum-snoc f c.pop.new.self.items c.in-Some.side),
    )
