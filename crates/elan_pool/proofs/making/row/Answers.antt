use Rattle.std.proofs.Common.{◌+◌, ◌-◌, ◌∙◌, [], ◌∷◌, length, length-append, length-set, set, ap, sym, subst}
use native.Mathlib.Omega.{arith}
use Rattle.elan_pool.specs.declared.rule.Tally.{Tally}
use Rattle.elan_pool.specs.Making.{Each, IsLending, IsNewSide}
use Rattle.elan_pool.proofs.Places.{each_snoc}
use Rattle.elan_pool.proofs.Makings.{next, lends}
use Rattle.elan_pool.proofs.making.row.Goals as goal

pub side-requires : goal.side-requires
side-requires g c =
    let i = c.sides.invariant in
    let docks = c.sides.docks.items in
    let each = subst (λ n. Each (IsLending n c.args.lent c.sides.number) docks) (sym i.1) i.3 in
    let at =
    next docks c.len-count.result c.args.lent c.sides.number c.index_mut.result.now (i.0 ∙ sym i.1)
    c.sides-test.true each c.index_mut.ensures.value in
    let parts = ap (λ (v : Tally). v.parts) at.1 in
    let lent = c.requires.few.0 in
    let few = c.requires.few.1 in omega (arith, parts, lent, few)

pub sides-preserved : goal.sides-preserved
sides-preserved g c =
    let i = c.sides.invariant in
    let docks = c.sides.docks.items in
    let place = c.len-count.result - 1 - c.sides.number in
    let each = subst (λ n. Each (IsLending n c.args.lent c.sides.number) docks) (sym i.1) i.3 in
    let at =
    next docks c.len-count.result c.args.lent c.sides.number c.index_mut.result.now (i.0 ∙ sym i.1)
    c.sides-test.true each c.index_mut.ensures.value in
    let all =
    lends docks c.len-count.result c.args.lent c.sides.number c.index_mut.result.now c.side.new.self (i.0 ∙ sym i.1)
    c.sides-test.true each c.index_mut.ensures.value c.in_ok-side.ensures.same c.in_ok-side.ensures.left in
    let pushed = ap length c.in_ok-push.ensures.items ∙ length-append c.sides.row.items (c.in_ok-side.field-0 ∷ []) in
    let len = i.2 in
    let new = c.in_ok-side.ensures.new in (
      length-set docks place c.side.new.self ∙ i.0,
      i.1,
      omega (arith, pushed, len),
      subst (λ n. Each (IsLending n c.args.lent (c.sides.number + 1)) (set docks place c.side.new.self)) i.1 all,
      subst (Each IsNewSide) (sym c.in_ok-push.ensures.items)
          (each_snoc IsNewSide c.sides.row.items c.in_ok-side.field-0 i.4
          (c.in_ok-side.ensures.number ∙ (at.0 ∙ sym i.2), new.0, new.1)),
    )
