use Rattle.std.proofs.Common.{sym, ap, ◌∙◌, subst, IsTrue}
use Rattle.elan_terms.specs.Term.{is_ac}
use Rattle.elan_table.proofs.Conditions.{settles, headed}
use Rattle.elan_table.proofs.rows.Rows.is_settled.Goals as goal

pub returns-then-has_none_headed : goal.returns-then-has_none_headed
returns-then-has_none_headed g c =
    settles g.N.Name.shapes c.args.op c.args.rows.now _ (ap (λ s. is_ac s c.args.op) (sym c.shapes.ensures) ∙ sym c.is_ac.ensures ∙ c.if-not-is_ac.false)
    (c.has_none_headed.ensures.0 c.if-has_none_headed.true) c.is_ascending.ensures

pub returns-else-has_none_headed : goal.returns-else-has_none_headed
returns-else-has_none_headed g c =
    headed g.N.Name.shapes c.args.op c.args.rows.now _ (ap (λ s. is_ac s c.args.op) (sym c.shapes.ensures) ∙ sym c.is_ac.ensures ∙ c.if-not-is_ac.false)
    c.if-has_none_headed.false c.has_none_headed.ensures
