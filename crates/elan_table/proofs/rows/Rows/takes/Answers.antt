use Rattle.elan_table.proofs.Conditions.{may_make}
use Rattle.elan_table.proofs.rows.Rows.takes.Goals as goal

pub returns-then-is_settled : goal.returns-then-is_settled
returns-then-is_settled g c =
    may_make g.N.Name.shapes c.args.op c.args.rows.now _ (c.is_allowed.ensures.0 c.if-is_allowed.true) (c.is_settled.ensures.0 c.if-is_settled.true) c.are_shallow.ensures
