use Rattle.std.proofs.Common.{◌≡◌, ℕ, ◌-◌, ◌∙◌, [], ◌∷◌, length, length-append, ap, refl, sym, subst, All}
use native.Mathlib.Omega.{arith}
use Rattle.crossbeam_deque.specs.Handles.{worker_view}
use Rattle.elan_pool.specs.Balance.{tally}
use Rattle.elan_pool.specs.Making.{Each, IsNewDock, IsNewRow, IsNewSeat}
use Rattle.elan_pool.proofs.Places.{each_rest, each_last, each_snoc, all_rest, all_last}
use Rattle.elan_pool.proofs.making.seats_of.Goals as goal

pub seat_of-requires-clause-dock : goal.seat_of-requires-clause-dock
seat_of-requires-clause-dock g c =
    let n = length c.args.docks.items in
    let dock = each_last (IsNewDock n n) c.pop.new.self.items c.in-Some.dock (subst (Each (IsNewDock n n)) c.in-Some.ensures.items c.docks.invariant.2) in
    let row = all_last (λ r. IsNewRow n r.items) c.pop-in-Some.new.self.items c.in-Some-pop.sides (subst (All (λ r. IsNewRow n r.items)) c.in-Some-pop.ensures.items c.docks.invariant.3) in
    let d = dock.0 in
    let r = row.0 in (omega (arith, d, r), subst (λ (k : ℕ). worker_view c.in-Some.dock.lane ≡ tally (256 - k) [] []) (sym r) dock.1)

pub seat_of-requires-clause-room : goal.seat_of-requires-clause-room
seat_of-requires-clause-room g c =
    let n = length c.args.docks.items in
    (each_last (IsNewDock n n) c.pop.new.self.items c.in-Some.dock (subst (Each (IsNewDock n n)) c.in-Some.ensures.items c.docks.invariant.2)).2

pub seat_of-requires-clause-sides : goal.seat_of-requires-clause-sides
seat_of-requires-clause-sides g c =
    let n = length c.args.docks.items in
    let row = all_last (λ r. IsNewRow n r.items) c.pop-in-Some.new.self.items c.in-Some-pop.sides (subst (All (λ r. IsNewRow n r.items)) c.in-Some-pop.ensures.items c.docks.invariant.3) in (refl, row.1)

pub seat_of-requires-clause-few : goal.seat_of-requires-clause-few
seat_of-requires-clause-few g c =
    let n = length c.args.docks.items in
    let row = all_last (λ r. IsNewRow n r.items) c.pop-in-Some.new.self.items c.in-Some-pop.sides (subst (All (λ r. IsNewRow n r.items)) c.in-Some-pop.ensures.items c.docks.invariant.3) in
    let r = row.0 in
    let few = c.requires.few in omega (arith, r, few)

pub docks-preserved : goal.docks-preserved
docks-preserved g c =
    let n = length c.args.docks.items in
    let docks = subst (Each (IsNewDock n n)) c.in-Some.ensures.items c.docks.invariant.2 in
    let rows = subst (All (λ r. IsNewRow n r.items)) c.in-Some-pop.ensures.items c.docks.invariant.3 in
    let dock = each_last (IsNewDock n n) c.pop.new.self.items c.in-Some.dock docks in
    let row = all_last (λ r. IsNewRow n r.items) c.pop-in-Some.new.self.items c.in-Some-pop.sides rows in
    let a = ap length c.in-Some.ensures.items ∙ length-append c.pop.new.self.items (c.in-Some.dock ∷ []) in
    let b = ap length c.in-Some-pop.ensures.items ∙ length-append c.pop-in-Some.new.self.items (c.in-Some-pop.sides ∷ []) in
    let d = ap length c.in_ok-push.ensures.items ∙ length-append c.docks.seats.items (c.seat_of.result ∷ []) in
    let len = c.docks.invariant.0 in
    let same = c.docks.invariant.1 in
    let number = dock.0 in
    let at : c.in-Some.dock.number ≡ length c.docks.seats.items = omega (arith, a, len, number) in (
      omega (arith, a, d, len),
      omega (arith, a, b, same),
      each_rest (IsNewDock n n) c.pop.new.self.items (c.in-Some.dock ∷ []) docks,
      all_rest (λ r. IsNewRow n r.items) c.pop-in-Some.new.self.items c.in-Some-pop.sides rows,
      subst (Each (IsNewSeat n)) (sym c.in_ok-push.ensures.items)
          (each_snoc (IsNewSeat n) c.docks.seats.items c.seat_of.result c.docks.invariant.4
          (subst (λ (k : ℕ). IsNewSeat n k c.seat_of.result) at (subst (λ (k : ℕ). IsNewSeat k c.in-Some.dock.number c.seat_of.result) row.0 c.seat_of.ensures))),
    )
