use Rattle.std.proofs.Common.{◌≡◌, ◌≤◌, map, length, drop, ◌+◌, ◌*◌}
use Rattle.std.specs.List.{flat_map}
use Rattle.elan_terms.specs.Weight.{weight, weights}
use Rattle.elan_reading.specs.declared.edge.Position.TheVariants.{First}
use Rattle.elan_print.specs.Terms as terms_spec
use Rattle.elan_print.specs.Terms.{shown_of}
use Rattle.elan_print.specs.Sides as spec
use Rattle.elan_print.specs.Pages.{sheet}
use Rattle.elan_print.proofs.terms.+term.Given as goal

-- each calls those of a lower rank on the same terms, or any on lighter ones

abbrev pub decreases-term_onto : goal.decreases-term_onto
decreases-term_onto l = 6 * weight l.term.now

abbrev pub decreases-argument_onto : goal.decreases-argument_onto
decreases-argument_onto l = 6 * weight l.term.now + 1

abbrev pub decreases-piece_onto : goal.decreases-piece_onto
decreases-piece_onto l = 6 * weights l.args.now

abbrev pub decreases-filled_onto : goal.decreases-filled_onto
decreases-filled_onto l = 6 * weights l.args.now + 1

abbrev pub decreases-plain_onto : goal.decreases-plain_onto
decreases-plain_onto l = 6 * weights l.args.now + 2

abbrev pub decreases-closed_onto : goal.decreases-closed_onto
decreases-closed_onto l = 6 * weight l.term.now + 2

abbrev pub decreases-opened_onto : goal.decreases-opened_onto
decreases-opened_onto l = 6 * weight l.term.now + 2

abbrev pub decreases-left_onto : goal.decreases-left_onto
decreases-left_onto l = 6 * (weight l.first.now + weights l.rest.now) + 3

abbrev pub decreases-right_onto : goal.decreases-right_onto
decreases-right_onto l = 6 * (weight l.first.now + weights l.rest.now) + 3

abbrev pub decreases-applied_onto : goal.decreases-applied_onto
decreases-applied_onto l = 6 * weights l.args.now + 3

-- what is written so far and what is left are all

-- and the arguments left are not heavier
abbrev pub invariant-filled_onto-pieces : goal.invariant-filled_onto-pieces
invariant-filled_onto-pieces l =
    (spec.put_all (sheet l.page) (terms_spec.filled l.operator l.position l.pieces (map (shown_of l.signature) l.left))
    ≡ spec.put_all (sheet l.fn.page) (terms_spec.filled l.operator First l.operator.pieces (map (shown_of l.signature) l.args)))
    × (weights l.left ≤ weights l.args)

abbrev pub decreases-filled_onto-pieces : goal.decreases-filled_onto-pieces
decreases-filled_onto-pieces l = length l.pieces

abbrev pub invariant-left_onto-terms : goal.invariant-left_onto-terms
invariant-left_onto-terms l =
    spec.put_all (sheet l.page) (flat_map (spec.closed l.operator) (map (shown_of l.signature) (drop l.term-index l.rest)))
    ≡ spec.put_all (sheet l.initial.page) (flat_map (spec.closed l.operator) (map (shown_of l.signature) l.rest))

abbrev pub invariant-right_onto-terms : goal.invariant-right_onto-terms
invariant-right_onto-terms l =
    (spec.put_all (sheet l.page) (spec.right_opened l.operator (shown_of l.signature l.term) (map (shown_of l.signature) (drop l.next-index l.rest)))
    ≡ spec.put_all (sheet l.fn.page) (spec.right_opened l.operator (shown_of l.signature l.first) (map (shown_of l.signature) l.rest)))
    × (weight l.term ≤ weight l.first + weights l.rest)
