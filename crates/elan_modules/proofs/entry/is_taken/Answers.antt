use Rattle.std.proofs.Common.{sym, ◌∙◌}
use Rattle.elan_modules.proofs.Indexes.{numbered_is, not_numbered_is}
use Rattle.elan_modules.proofs.entry.is_taken.Goals as goal

pub returns-then-is_some : goal.returns-then-is_some
returns-then-is_some c = c.if-is_some.true ∙ sym (numbered_is c.args.before.now c.args.name.now _ c.number_of.ensures.value (sym c.is_some.ensures ∙ c.if-is_some.true))

pub returns-else-is_some : goal.returns-else-is_some
returns-else-is_some c =
    rw (c.is_some-else-is_some.ensures, c.standard_of.ensures)
    (sym (not_numbered_is c.args.before.now c.args.name.now _ c.number_of.ensures.value (sym c.is_some.ensures ∙ c.if-is_some.false)))
