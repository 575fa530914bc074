use Rattle.std.proofs.Common.{◌∙◌, sym}
use Rattle.elan_plain.proofs.BuiltinLemmas.{of_one}
use Rattle.elan_plain.proofs.builtin.of_one.Goals as goal

-- the value of the operand is that of the term
pub returns : goal.returns
returns c =
    c.term_of.ensures
    ∙ sym (of_one c.args.truth.now c.args.builtin c.as_slice.result.now c.operand.result c.args.term.now c.reduce-value.result
    c.as_slice.ensures c.operand.ensures c.reduce-value.ensures.terms)
