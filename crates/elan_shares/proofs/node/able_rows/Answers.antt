use Rattle.std.proofs.Common.{sym, ◌∙◌}
use Rattle.elan_terms.proofs.Sorting.{not_true}
use Rattle.elan_table.specs.Rows.{terms}
use Rattle.elan_shares.specs.Nodes.{MayStandUnder}
use Rattle.elan_shares.proofs.NodeLemmas.{keeps_pushed, keeps_dropped, keeps_all}
use Rattle.elan_shares.proofs.node.able_rows.Goals as goal

pub rows-preserved-in_ok-push : goal.rows-preserved-in_ok-push
rows-preserved-in_ok-push g c = keeps_pushed (MayStandUnder g.N.Name.shapes c.args.op) c.rows.out _ (terms c.args.rows.now) c.rows.left.now c.row-item.result c.again.result
    c.rows.invariant c.in-len1-up.len_at_least c.row-item.is (c.may_stand_under.ensures.0 c.if-may_stand_under.true) c.again.ensures c.in_ok-push.ensures.ok

pub rows-preserved : goal.rows-preserved
rows-preserved g c = keeps_dropped (MayStandUnder g.N.Name.shapes c.args.op) (terms c.rows.out) (terms c.args.rows.now) c.rows.left.now c.row-item.result
    c.rows.invariant c.in-len1-up.len_at_least c.row-item.is (λ f. not_true (sym (c.may_stand_under.ensures.1 f) ∙ c.if-may_stand_under.false))

pub returns : goal.returns
returns g c = keeps_all (MayStandUnder g.N.Name.shapes c.args.op) (terms c.rows.out) (terms c.args.rows.now) c.rows.left.now c.rows.invariant c.in_default.len_below
