use Rattle.std.proofs.Common.{◌≡◌, ◌++◌, drop}
use Rattle.std.specs.List.{filter, flat_map}
use Rattle.elan_terms.specs.Match.{prefixed, has_sort}
use Rattle.elan_terms.proofs.assignment.extended_onto.Given as goal

-- the lists so far and those of the terms that are left are those that there were and all
abbrev pub invariant-loop-term : goal.invariant-loop-term
invariant-loop-term l =
    l.out ++ flat_map (prefixed l.later) (filter (has_sort l.shapes l.sort) (drop l.term-index l.terms))
    ≡ l.initial.out ++ flat_map (prefixed l.later) (filter (has_sort l.shapes l.sort) l.terms)
