use Rattle.std.proofs.Common.{◌≡◌, sym, ap, ◌∙◌, true, false, drop, length, is_eq, arith}
use Rattle.elan_table.specs.Rows.{terms}
use Rattle.elan_bags.specs.Cuts.{against, since, beyond}
use Rattle.elan_bags.proofs.AboveLemmas.{found, joined, better, better_found, better_kept, walk_on, walk_stops, walk_ends, above_is}
use Rattle.elan_bags.proofs.RowLemmas.{terms-length}
use Rattle.elan_bags.proofs.choice.above.Goals as goal
use Rattle.elan_bags.proofs.choice.above.Goals.{then-saturating_sub-greater, else-saturating_sub-greater}

pub returns-then-not-is_eq : goal.returns-then-not-is_eq
returns-then-not-is_eq g c = λ up le.
    let b = c.index-past-kept.result.value in
    let is : terms c.beyond-greater.result.now ≡ beyond b (since b (terms c.bounds.left.now)) = c.beyond-greater.ensures ∙ ap (beyond b) c.since-from.ensures in
    let long : length c.beyond-greater.result.now ≡ length (beyond b (since b (terms c.bounds.left.now))) = sym (terms-length c.beyond-greater.result.now) ∙ ap length is in
    let best : found c.if-saturating_sub-greater.is_found (joined (terms c.args.past.now) c.if-saturating_sub-greater.stay c.args.many (terms c.if-saturating_sub-greater.others.now))
    ≡ better (terms c.args.past.now) c.bounds.kept c.args.many (beyond b (since b (terms c.bounds.left.now))) (found c.bounds.is_found (joined (terms c.args.past.now) c.bounds.stay c.args.many (terms c.bounds.others.now)))
    = elim c.if-saturating_sub-greater.branch [
      | then-saturating_sub-greater w ↦
          let same_rows : terms c.if-saturating_sub-greater.others.now ≡ terms c.beyond-greater.result.now = cc in
          better_found (terms c.args.past.now) c.bounds.kept c.args.many _ _ _ _ _ _ w.is_found-is w.stay-is (same_rows ∙ is) long (omega arith)
      | else-saturating_sub-greater w ↦
          let same_rows : terms c.if-saturating_sub-greater.others.now ≡ terms c.bounds.others.now = cc in
          better_kept (terms c.args.past.now) c.bounds.kept c.args.many _ _ _ _ _ _ _ _ w.is_found-is w.stay-is same_rows long (omega arith)
    ] in
    let test : is_eq (against b (since b (terms c.bounds.left.now))) ≡ false = ap (λ us. is_eq (against b us)) (sym c.since-from.ensures) ∙ ap is_eq (sym c.place.ensures) ∙ sym c.is_eq.ensures ∙ c.if-not-is_eq.true in
    above_is (terms c.args.rows.now) (terms c.args.past.now) c.args.many _ _ c.in_ok-found.ensures
    (walk_stops (terms c.args.rows.now) c.args.past.now (terms c.bounds.left.now) c.bounds.kept c.args.many c.index-past-kept.result _ _ (omega arith) c.index-past-kept.is c.bounds.invariant test best) up le

pub bounds-preserved : goal.bounds-preserved
bounds-preserved g c =
    let b = c.index-past-kept.result.value in
    let is : terms c.beyond-greater.result.now ≡ beyond b (since b (terms c.bounds.left.now)) = c.beyond-greater.ensures ∙ ap (beyond b) c.since-from.ensures in
    let long : length c.beyond-greater.result.now ≡ length (beyond b (since b (terms c.bounds.left.now))) = sym (terms-length c.beyond-greater.result.now) ∙ ap length is in
    let best : found c.if-saturating_sub-greater.is_found (joined (terms c.args.past.now) c.if-saturating_sub-greater.stay c.args.many (terms c.if-saturating_sub-greater.others.now))
    ≡ better (terms c.args.past.now) c.bounds.kept c.args.many (beyond b (since b (terms c.bounds.left.now))) (found c.bounds.is_found (joined (terms c.args.past.now) c.bounds.stay c.args.many (terms c.bounds.others.now)))
    = elim c.if-saturating_sub-greater.branch [
      | then-saturating_sub-greater w ↦
          let same_rows : terms c.if-saturating_sub-greater.others.now ≡ terms c.beyond-greater.result.now = cc in
          better_found (terms c.args.past.now) c.bounds.kept c.args.many _ _ _ _ _ _ w.is_found-is w.stay-is (same_rows ∙ is) long (omega arith)
      | else-saturating_sub-greater w ↦
          let same_rows : terms c.if-saturating_sub-greater.others.now ≡ terms c.bounds.others.now = cc in
          better_kept (terms c.args.past.now) c.bounds.kept c.args.many _ _ _ _ _ _ _ _ w.is_found-is w.stay-is same_rows long (omega arith)
    ] in
    let test : is_eq (against b (since b (terms c.bounds.left.now))) ≡ true = ap (λ us. is_eq (against b us)) (sym c.since-from.ensures) ∙ ap is_eq (sym c.place.ensures) ∙ sym c.is_eq.ensures ∙ c.if-not-is_eq.false in
    walk_on (terms c.args.rows.now) c.args.past.now (terms c.bounds.left.now) (terms c.later-left.result.now) c.bounds.kept c.args.many c.index-past-kept.result _ _
    (omega arith) c.index-past-kept.is c.bounds.invariant test best (c.later-left.ensures ∙ ap (drop 1) c.since-from.ensures)

pub returns : goal.returns
returns g c = λ up le.
    above_is (terms c.args.rows.now) (terms c.args.past.now) c.args.many _ _ c.in_ok-found-2.ensures
    (walk_ends (terms c.args.rows.now) (terms c.args.past.now) (terms c.bounds.left.now) c.bounds.kept c.args.many _ (omega (arith, terms-length c.args.past.now)) c.bounds.invariant) up le
