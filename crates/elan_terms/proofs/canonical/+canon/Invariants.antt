use Rattle.std.proofs.Common.{◌≡◌, ◌++◌, map, drop}
use Rattle.elan_terms.specs.Term as spec
use Rattle.elan_terms.specs.Weight.{weight, weights}
use Rattle.elan_terms.proofs.canonical.+canon.Given as goal

abbrev pub decreases-canon : goal.decreases-canon
decreases-canon l = weight l.term.now

abbrev pub decreases-canon_onto : goal.decreases-canon_onto
decreases-canon_onto l = weights l.terms.now

-- the forms so far and those of the terms left are those that there were and all
abbrev pub invariant-canon_onto-loop-term : goal.invariant-canon_onto-loop-term
invariant-canon_onto-loop-term l =
    l.out ++ map (spec.canon l.shapes) (drop l.term-index l.terms) ≡ l.initial.out ++ map (spec.canon l.shapes) l.terms
