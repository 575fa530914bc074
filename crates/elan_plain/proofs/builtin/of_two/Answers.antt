use Rattle.std.proofs.Common.{◌∙◌, sym, ap}
use Rattle.std.specs.Ordering.{is_eq}
use Rattle.elan_plain.proofs.BuiltinLemmas.{of_two}
use Rattle.elan_plain.proofs.builtin.of_two.Goals as goal

-- the value of the operands is that of the terms
pub returns : goal.returns
returns c =
    c.term_of.ensures
    ∙ sym (of_two c.args.truth.now c.args.builtin c.as_slice.result.now c.operand.result c.operand-2.result c.args.first.now
    c.args.second.now c.is_eq-same.result c.reduce.result c.as_slice.ensures c.operand.ensures c.operand-2.ensures
    (c.is_eq-same.ensures ∙ ap is_eq c.compare.ensures) c.reduce.ensures.terms)
