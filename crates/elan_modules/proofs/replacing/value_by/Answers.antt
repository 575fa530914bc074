use Rattle.std.proofs.Common.{sym, ◌∙◌}
use Rattle.elan_modules.proofs.ReplacingLemmas.{value_indexed, value_other}
use Rattle.elan_modules.proofs.replacing.value_by.Goals as goal

pub returns-in-Some : goal.returns-in-Some
returns-in-Some c = c.as_bytes.ensures ∙ sym (value_indexed c.args.word.now c.args.known.now c.args.values.now
    c.in-Some.number c.index-values-number.result c.requires (sym c.number_of.ensures.value ∙ c.in-Some.is)
    c.index-values-number.is)

pub returns-in-None : goal.returns-in-None
returns-in-None c =
    sym (value_other c.args.word.now c.args.known.now c.args.values.now (sym c.number_of.ensures.value ∙ c.in-None.is))
