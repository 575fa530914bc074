use Rattle.std.proofs.Common.{◌+◌, ◌∙◌, [], ◌∷◌, length, length-append, ap, sym, subst, All}
use native.Mathlib.Omega.{arith}
use Rattle.elan_pool.specs.Making.{Each, IsNewDock, IsNewRow}
use Rattle.elan_pool.proofs.Growing.{one_more}
use Rattle.elan_pool.proofs.making.rows.Goals as goal

pub rows-preserved : goal.rows-preserved
rows-preserved g c =
    let i = c.rows.invariant in
    let pushed = ap length c.in_ok-push.ensures.items ∙ length-append c.rows.rows.items (c.in_ok-row.field-0 ∷ []) in
    let len = i.2 in (
      c.row.ensures.len ∙ i.0,
      i.1,
      omega (arith, pushed, len),
      subst (λ n. Each (IsNewDock n (c.rows.lent + 1)) c.row.new.docks.items) i.0 c.in_ok-row.ensures.docks,
      subst (All (λ r. IsNewRow (length c.args.docks.now.items) r.items)) (sym c.in_ok-push.ensures.items)
          (one_more (λ r. IsNewRow (length c.args.docks.now.items) r.items) c.rows.rows.items c.in_ok-row.field-0 i.4
          (subst (λ n. IsNewRow n c.in_ok-row.field-0.items) i.0 c.in_ok-row.ensures.row)),
    )
