use Rattle.std.proofs.Common.{sym, ◌∙◌}
use Rattle.elan_modules.proofs.ReplacingLemmas.{name_kept, value_kept, value_added}
use Rattle.elan_modules.proofs.replacing.add_value.Goals as goal

pub returns-then-is_some-clause-known : goal.returns-then-is_some-clause-known
returns-then-is_some-clause-known c =
    name_kept c.args.known.now c.args.values.now c.args.parameter.now c.args.sort.now _
    (rw c.as_bytes-name.ensures at c.number_of.ensures.value) (sym c.is_some.ensures ∙ c.if-is_some.true)

pub returns-then-is_some-clause-values : goal.returns-then-is_some-clause-values
returns-then-is_some-clause-values c =
    value_kept c.args.known.now c.args.values.now c.args.parameter.now c.args.sort.now _
    (rw c.as_bytes-name.ensures at c.number_of.ensures.value) (sym c.is_some.ensures ∙ c.if-is_some.true)

pub returns-clause-values : goal.returns-clause-values
returns-clause-values c =
    let added = value_added c.args.known.now c.args.values.now c.args.parameter.now c.args.sort.now _
    (rw c.as_bytes-name.ensures at c.number_of.ensures.value) (sym c.is_some.ensures ∙ c.if-is_some.false) in
    rw (c.in_ok-push.ensures.ok, c.in_ok-copy.ensures) added
