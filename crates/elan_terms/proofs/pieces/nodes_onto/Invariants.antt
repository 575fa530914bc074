use Rattle.std.proofs.Common.{◌≡◌, ◌++◌, drop, map, length}
use Rattle.std.specs.Prelude.{nat_lt}
use Rattle.std.specs.List.{filter}
use Rattle.elan_terms.specs.Trees.{app_term}
use Rattle.elan_terms.proofs.pieces.nodes_onto.Given as goal

-- the nodes so far and those of the lists left are those that there were and all
abbrev pub invariant-loop-list : goal.invariant-loop-list
invariant-loop-list l =
    l.out ++ map (app_term l.op) (filter (λ us. nat_lt 1 (length us)) (drop l.list-index l.lists))
    ≡ l.initial.out ++ map (app_term l.op) (filter (λ us. nat_lt 1 (length us)) l.lists)
