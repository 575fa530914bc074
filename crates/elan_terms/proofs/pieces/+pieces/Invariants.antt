use Rattle.std.proofs.Common.{◌≡◌, ◌++◌, drop}
use Rattle.std.specs.List.{flat_map}
use Rattle.elan_terms.specs.Sublists as spec
use Rattle.elan_terms.specs.Weight.{weight, weights}
use Rattle.elan_terms.proofs.pieces.+pieces.Given as goal

abbrev pub decreases-pieces_onto : goal.decreases-pieces_onto
decreases-pieces_onto l = weight l.term.now

abbrev pub decreases-all_pieces_onto : goal.decreases-all_pieces_onto
decreases-all_pieces_onto l = weights l.terms.now

-- the pieces so far and those of the terms left are those that there were and all
abbrev pub invariant-all_pieces_onto-loop-term : goal.invariant-all_pieces_onto-loop-term
invariant-all_pieces_onto-loop-term l =
    l.out ++ flat_map (spec.pieces l.shapes) (drop l.term-index l.terms) ≡ l.initial.out ++ flat_map (spec.pieces l.shapes) l.terms
