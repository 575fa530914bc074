use Rattle.std.proofs.Common.{sym, ap, ◌∙◌}
use Rattle.elan_look.specs.declared.low.Low.TheVariants.{Any}
use Rattle.elan_look.proofs.TellLemmas as tells
use Rattle.elan_look.proofs.SayLemmas as says
use Rattle.elan_look.proofs.walk.at_variable.Goals as goal

pub returns-in-Some-clause-tells : goal.returns-in-Some-clause-tells
returns-in-Some-clause-tells g c = tells.tells-test g.N.Name.shapes c.args.sight.now c.args.number c.args.term.now.value c.in-Some.value c.equal.result c.any_if.result c.any_if.ensures (c.in-Some.ensures {u = tt}) c.equal.ensures

pub returns-else-takes-clause-tells : goal.returns-else-takes-clause-tells
returns-else-takes-clause-tells g c = tells.tells-not g.N.Name.shapes c.args.sight.now c.args.number c.args.term.now.value c.takes.result (c.in-None.ensures {u = tt}) (sym c.is_sought.ensures ∙ c.if-is_sought.true) c.takes.ensures c.if-takes.false

pub returns-then-takes-clause-tells : goal.returns-then-takes-clause-tells
returns-then-takes-clause-tells g c = tells.tells-at g.N.Name.shapes c.args.sight.now c.args.number c.args.term.now.value c.again.result (c.in-None.ensures {u = tt}) (sym c.is_sought.ensures ∙ c.if-is_sought.true) (ap (λ w. w.value) c.again.ensures) (c.takes.ensures.0 c.if-takes.true)

pub returns-in-Some-clause-says : goal.returns-in-Some-clause-says
returns-in-Some-clause-says g c = says.says-known c.args.sight.now c.args.number c.in-Some.value c.any_if.result (c.in-Some.ensures {u = tt})

pub returns-else-is_sought-clause-says : goal.returns-else-is_sought-clause-says
returns-else-is_sought-clause-says g c = says.says-open c.args.sight.now c.args.number Any (sym c.is_sought.ensures ∙ c.if-is_sought.false)
