use Rattle.std.proofs.Common.{◌≡◌, ℕ, ◌+◌, ◌*◌, ◌<◌, ◌≤◌, ◌∙◌, [], ◌∷◌, ◌++◌, None, Some, length, length-append, length-set, set, ap, refl, sym, subst}
use native.Mathlib.Omega.{arith}
use Rattle.std.proofs.lemmas.Option.{slice_get_read, slice_get_within}
use Rattle.std.specs.List.{slice_get}
use Rattle.crossbeam_deque.specs.Handles.{view, worker_view}
use Rattle.elan_pool.specs.declared.rule.Tally.{Tally}
use Rattle.elan_pool.specs.Balance.{weigh, numbers}
use Rattle.elan_pool.specs.Making.{Each}
use Rattle.elan_pool.specs.Closing.{IsAdditive, IsHome, IsBack, slot_sum, dock_sum, side_sum, row_sum, seat_sum}
use Rattle.elan_pool.proofs.Places.{each_snoc, each_set}
use Rattle.elan_pool.proofs.Sums.{dock_sum-snoc, side_sum-snoc, row_sum-snoc, seat_sum-snoc, dock_sum-set, all_back, last_whole, seat_parts, seat_puts}
use Rattle.elan_pool.proofs.closing.places.Goals as goal

pub places-preserved : goal.places-preserved
places-preserved g c =
    let i = c.places.invariant in
    let len = i.0 in
    let pushed = ap length c.in_ok-push.ensures.items ∙ length-append c.places.docks.items (None ∷ []) in (
      omega (arith, len, pushed),
      subst (Each IsHome) (sym c.in_ok-push.ensures.items) (each_snoc IsHome c.places.docks.items None i.1 tt),
      λ f. let s = ap (dock_sum f) c.in_ok-push.ensures.items in let n = i.2 f in omega (arith, s, n, dock_sum-snoc f c.places.docks.items None),
    )
