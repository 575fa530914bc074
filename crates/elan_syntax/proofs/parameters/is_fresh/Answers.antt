use Rattle.std.proofs.Common.{ap, ◌∙◌}
use Rattle.elan_numbers.specs.Numbering.{number_of}
use Rattle.elan_syntax.proofs.FreshNames.{fresh_then, fresh_else}
use Rattle.elan_syntax.proofs.parameters.is_fresh.Goals as goal

pub returns-then-sees_any : goal.returns-then-sees_any
returns-then-sees_any c =
    fresh_then c.args.reader.now c.args.word.now.bytes c.args.taken.now c.number_of.result c.sees_any.result
    c.is_none.result c.requires (c.number_of.ensures.value ∙ ap (λ w. number_of w c.args.taken.now) c.as_bytes.ensures)
    c.sees_any.ensures c.if-sees_any.true c.is_none.ensures

pub returns-else-sees_any : goal.returns-else-sees_any
returns-else-sees_any c =
    fresh_else c.args.reader.now c.args.word.now.bytes c.args.taken.now c.sees_any.result c.requires
    c.sees_any.ensures c.if-sees_any.false
