use Rattle.std.proofs.Common.{◌≡◌, ℕ, ◌+◌, ◌*◌, ◌<◌, ◌≤◌, ◌∙◌, [], ◌∷◌, ◌++◌, None, Some, length, length-append, length-set, set, ap, refl, sym, subst}
use native.Mathlib.Omega.{arith}
use Rattle.std.proofs.lemmas.Option.{slice_get_read, slice_get_within}
use Rattle.std.specs.List.{slice_get}
use Rattle.crossbeam_deque.specs.Handles.{view, worker_view}
use Rattle.elan_pool.specs.declared.rule.Tally.{Tally}
use Rattle.elan_pool.specs.Balance.{weigh, numbers}
use Rattle.elan_pool.specs.Making.{Each}
use Rattle.elan_pool.specs.Closing.{IsAdditive, IsHome, IsBack, slot_sum, dock_sum, side_sum, row_sum, seat_sum}
use Rattle.elan_pool.proofs.Balances.{weigh-append}
use Rattle.elan_pool.proofs.Places.{each_snoc, each_set}
use Rattle.elan_pool.proofs.Sums.{dock_sum-snoc, side_sum-snoc, row_sum-snoc, seat_sum-snoc, dock_sum-set, all_back, last_whole, seat_parts, seat_puts}
use Rattle.elan_pool.proofs.closing.drained.Goals as goal

pub drain-requires : goal.drain-requires
drain-requires g c = (last_whole c.docks.docks.items c.pop.new.self.items c.in-Some.slot c.docks.invariant.0 c.in-Some.ensures.items).0

pub docks-preserved : goal.docks-preserved
docks-preserved g c =
    let w = last_whole c.docks.docks.items c.pop.new.self.items c.in-Some.slot c.docks.invariant.0 c.in-Some.ensures.items in (
      w.1,
      λ h.
          let put : Tally → ℕ = λ v. weigh h v.put in
          let taken : Tally → ℕ = λ v. weigh h v.taken in
          let all = c.docks.invariant.1 h in
          let d = c.in_ok-drain.ensures h in
          let a = ap (dock_sum put) c.in-Some.ensures.items in
          let b = ap (dock_sum taken) c.in-Some.ensures.items in
          omega (arith, all, d, a, b, dock_sum-snoc put c.pop.new.self.items c.in-Some.slot, dock_sum-snoc taken c.pop.new.self.items c.in-Some.slot),
    )
