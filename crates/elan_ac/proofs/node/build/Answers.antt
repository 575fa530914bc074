use Rattle.std.proofs.Common.{sym, ap, ◌∙◌, subst, IfOk}
use Rattle.elan_terms.specs.Term.{is_ac}
use Rattle.elan_table.specs.Rows.{terms}
use Rattle.elan_ac.specs.Built.{IsBuilt}
use Rattle.elan_ac.proofs.NodeLemmas.{node-arms, node-others, node-fits, node-settled}
use Rattle.elan_ac.proofs.node.build.Goals as goal

pub make-requires-clause-fits : goal.make-requires-clause-fits
make-requires-clause-fits g c =
    node-fits g.N.Name.shapes c.args.op c.args.args.now c.all_known.ensures c.requires _
    (node-arms g.N.Name.shapes c.args.op (terms c.args.args.now) _ (ap (λ s. is_ac s c.args.op) (sym c.shapes.ensures) ∙ sym c.is_ac.ensures ∙ c.if-is_ac.true)
    (ap terms c.as_slice.ensures.value ∙ c.in_ok-arms.ensures {u = tt}))

pub make-requires-clause-settled : goal.make-requires-clause-settled
make-requires-clause-settled g c =
    node-settled g.N.Name.shapes c.args.op c.args.args.now c.all_known.ensures c.requires _
    (node-arms g.N.Name.shapes c.args.op (terms c.args.args.now) _ (ap (λ s. is_ac s c.args.op) (sym c.shapes.ensures) ∙ sym c.is_ac.ensures ∙ c.if-is_ac.true)
    (ap terms c.as_slice.ensures.value ∙ c.in_ok-arms.ensures {u = tt}))

pub returns-in_ok-arms : goal.returns-in_ok-arms
returns-in_ok-arms g c =
    subst (λ t. IfOk c.make.result (IsBuilt t))
    (sym (node-arms g.N.Name.shapes c.args.op (terms c.args.args.now) _ (ap (λ s. is_ac s c.args.op) (sym c.shapes.ensures) ∙ sym c.is_ac.ensures ∙ c.if-is_ac.true)
    (ap terms c.as_slice.ensures.value ∙ c.in_ok-arms.ensures {u = tt})))
    c.make.ensures

pub returns-else-is_ac : goal.returns-else-is_ac
returns-else-is_ac g c =
    subst (λ t. IfOk c.make-else-is_ac.result (IsBuilt t))
    (sym (node-others g.N.Name.shapes c.args.op (terms c.args.args.now) (ap (λ s. is_ac s c.args.op) (sym c.shapes.ensures) ∙ sym c.is_ac.ensures ∙ c.if-is_ac.false)))
    c.make-else-is_ac.ensures
