use Rattle.std.proofs.Common.{arith}
use Rattle.elan_demo.proofs.RuleLemmas.{rules_next}
use Rattle.elan_demo.proofs.input.rules_onto.Goals as goal

pub rules-preserved : goal.rules-preserved
rules-preserved c =
    let some = c.rules-test.true in
    let next = rules_next c.args.n c.rules.left c.rules.text.items some c.rules.invariant.1 in
    (rw (c.in_ok-rule_onto.ensures, next) c.rules.invariant.0, omega (arith, c.rules.invariant.1))
