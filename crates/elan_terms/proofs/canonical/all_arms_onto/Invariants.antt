use Rattle.std.proofs.Common.{◌≡◌, ◌++◌, drop}
use Rattle.std.specs.List.{flat_map}
use Rattle.elan_terms.specs.Term.{arms_under}
use Rattle.elan_terms.proofs.canonical.all_arms_onto.Given as goal

-- the arguments so far and those that the terms left bring are those that there were and all
abbrev pub invariant-loop-term : goal.invariant-loop-term
invariant-loop-term l =
    l.out ++ flat_map (arms_under l.op) (drop l.term-index l.terms) ≡ l.initial.out ++ flat_map (arms_under l.op) l.terms
