use Rattle.std.proofs.Common.{◌≡◌, ℕ, ◌+◌, ◌*◌, ◌<◌, ◌≤◌, ◌∙◌, [], ◌∷◌, ◌++◌, None, Some, length, length-append, length-set, set, ap, refl, sym, subst}
use native.Mathlib.Omega.{arith}
use Rattle.std.proofs.lemmas.Option.{slice_get_read, slice_get_within}
use Rattle.std.specs.List.{slice_get}
use Rattle.crossbeam_deque.specs.Handles.{view, worker_view}
use Rattle.elan_pool.specs.declared.rule.Tally.{Tally}
use Rattle.elan_pool.specs.Balance.{weigh, numbers}
use Rattle.elan_pool.specs.Making.{Each}
use Rattle.elan_pool.specs.Closing.{IsAdditive, IsHome, IsBack, slot_sum, dock_sum, side_sum, row_sum, seat_sum}
use Rattle.elan_pool.proofs.Places.{each_snoc, each_set}
use Rattle.elan_pool.proofs.Sums.{dock_sum-snoc, side_sum-snoc, row_sum-snoc, seat_sum-snoc, dock_sum-set, all_back, last_whole, seat_parts, seat_puts}
use Rattle.elan_pool.proofs.closing.come_back.Goals as goal

pub returns-clause-sum : goal.returns-clause-sum
returns-clause-sum g c =
    let docks = c.args.docks.now.items in
    let within = slice_get_within g.P.PoolName.deques c.args.dock.number _ c.args.dock.at in
    let len = c.requires.len in
    let at = slice_get_read docks (length docks) c.args.dock.number c.index_mut.result.now refl (omega (arith, within, len)) c.index_mut.ensures.value in
    λ f. let s = dock_sum-set f docks c.args.dock.number c.index_mut.result.now c.place.new.slot at in
    let was = ap (slot_sum f) c.place.ensures.was in
    let now = ap (slot_sum f) c.place.ensures.now in omega (arith, s, was, now)
