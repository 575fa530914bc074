use Rattle.std.proofs.Common.{refl, arith, flat_map, ◌∙◌, ap, ◌<◌}
use Rattle.std.proofs.lemmas.Result.{on_ok_weaker}
use Rattle.elan_terms.specs.Weight.{weight, weights}
use Rattle.elan_terms.proofs.WeightLemmas.{weight-at}
use Rattle.elan_print.specs.Terms.{shown_of}
use Rattle.elan_print.specs.Sides as spec
use Rattle.elan_print.specs.Pages.{sheet}
use Rattle.elan_print.proofs.Writing.{each_step, next_step, left_whole, right_whole, hole_whole}
use Rattle.elan_print.proofs.terms.+term.Goals as goal

pub left_onto-terms-preserved : goal.left_onto-terms-preserved
left_onto-terms-preserved t c =
    each_step (shown_of c.args.signature.now) (sheet c.terms.page) (sheet c.closed_onto.new.page) _ (λ l. flat_map (spec.closed c.args.operator.now) l) (spec.closed c.args.operator.now) (λ _ _. refl)
    c.args.rest.now c.terms.term-index c.term-item.result (omega (arith, c.terms-test.true)) c.term-item.is c.terms.invariant c.in_ok-closed_onto.ensures

pub left_onto-returns : goal.left_onto-returns
left_onto-returns t c =
    left_whole (shown_of c.args.signature.now) c.args.operator.now c.args.first.now c.args.rest.now c.terms.term-index (sheet c.args.page.now) (sheet c.times_onto.new.page) (sheet c.argument_onto.new.page) (sheet c.terms.page)
    c.as_slice-pieces.result.now c.first_side.result (omega (arith, c.terms-test.false)) c.as_slice-pieces.ensures c.first_side.ensures c.in_ok-times_onto.ensures c.in_ok-argument_onto.ensures c.terms.invariant

pub piece_onto-returns-in_ok-argument_onto-in-len1-up-clause-written : goal.piece_onto-returns-in_ok-argument_onto-in-len1-up-clause-written
piece_onto-returns-in_ok-argument_onto-in-len1-up-clause-written t c =
    hole_whole (shown_of c.args.signature.now) c.args.operator.now c.args.position c.side_of.result c.args.piece.now c.args.rest.now c.term-item.result c.args.args.now (sheet c.args.page.now) (sheet c.argument_onto.new.page)
    c.in-Hole.is c.in-len1-up.len_at_least c.term-item.is c.side_of.ensures c.in_ok-argument_onto-in-len1-up.ensures

pub right_onto-terms-preserved : goal.right_onto-terms-preserved
right_onto-terms-preserved t c =
    let lighter : weight c.next-item.result < weights c.args.rest.now = weight-at c.args.rest.now c.terms.next-index c.next-item.result (omega (arith, c.terms-test.true)) c.next-item.is in (
      next_step (shown_of c.args.signature.now) (sheet c.terms.page) (sheet c.opened_onto.new.page) _ c.args.operator.now c.terms.term.now c.args.rest.now c.terms.next-index c.next-item.result
          (omega (arith, c.terms-test.true)) c.next-item.is c.terms.invariant.0 c.in_ok-opened_onto.ensures,
      omega arith,
    )

pub right_onto-returns : goal.right_onto-returns
right_onto-returns t c =
    on_ok_weaker c.times_onto.result (λ written.
    right_whole (shown_of c.args.signature.now) c.args.operator.now c.args.first.now c.terms.term.now c.args.rest.now c.terms.next-index (sheet c.args.page.now) (sheet c.terms.page) (sheet c.argument_onto.new.page) (sheet c.times_onto.new.page)
    c.behind-end.result.now c.side_of.result (omega (arith, c.terms-test.false)) (c.behind-end.ensures ∙ ap spec.behind (c.behind.ensures ∙ ap spec.behind c.as_slice.ensures)) c.side_of.ensures
    c.terms.invariant.0 c.in_ok-argument_onto.ensures written) c.times_onto.ensures
