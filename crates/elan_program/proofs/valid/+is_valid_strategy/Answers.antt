use Rattle.std.proofs.Common.{sym, ◌∙◌, ap}
use Rattle.std.specs.Prelude.{slice_get}
use Rattle.std.specs.List.{list_all}
use Rattle.elan_program.specs.Validity.{is_valid_strategy, is_named_for}
use Rattle.elan_program.proofs.ValidLemmas.{valid-call-there, valid-seq, valid-all, valid-first}
use Rattle.elan_program.proofs.valid.+is_valid_strategy.Goals as goal

pub is_valid_strategy-returns-then-is_named_for : goal.is_valid_strategy-returns-then-is_named_for
is_valid_strategy-returns-then-is_named_for t c =
    c.are_valid_strategies.ensures
    ∙ ap (list_all (λ s. is_valid_strategy c.args.parts.now c.args.scope s c.args.sort)) c.as_slice-then-is_named_for.ensures
    ∙ sym (valid-call-there c.args.parts.now c.args.scope c.args.strategy.now c.args.sort c.in-Call.number c.in-Call.actuals c.in-Call.is
    (ap (λ n. is_named_for c.args.sort n (slice_get c.args.parts.now.named c.in-Call.number)) (sym c.len.ensures)
    ∙ ap (λ ns. is_named_for c.args.sort c.len.result (slice_get ns c.in-Call.number)) (sym c.as_slice-in-Call.ensures)
    ∙ sym c.is_named_for.ensures ∙ c.if-is_named_for.true))

pub is_valid_strategy-returns-in-Seq : goal.is_valid_strategy-returns-in-Seq
is_valid_strategy-returns-in-Seq t c =
    c.are_valid_strategies-in-Seq.ensures
    ∙ ap (list_all (λ s. is_valid_strategy c.args.parts.now c.args.scope s c.args.sort)) c.as_slice-in-Seq.ensures
    ∙ sym (valid-seq c.args.parts.now c.args.scope c.args.strategy.now c.args.sort c.in-Seq.all c.in-Seq.is)

pub is_valid_strategy-returns-in-All : goal.is_valid_strategy-returns-in-All
is_valid_strategy-returns-in-All t c =
    c.are_valid_strategies-in-All.ensures
    ∙ ap (list_all (λ s. is_valid_strategy c.args.parts.now c.args.scope s c.args.sort)) c.as_slice-in-All.ensures
    ∙ sym (valid-all c.args.parts.now c.args.scope c.args.strategy.now c.args.sort c.in-All.all c.in-All.is)

pub is_valid_strategy-returns-in-First : goal.is_valid_strategy-returns-in-First
is_valid_strategy-returns-in-First t c =
    c.are_valid_strategies-in-First.ensures
    ∙ ap (list_all (λ s. is_valid_strategy c.args.parts.now c.args.scope s c.args.sort)) c.as_slice-in-First.ensures
    ∙ sym (valid-first c.args.parts.now c.args.scope c.args.strategy.now c.args.sort c.in-First.one c.in-First.arms c.in-First.is)
