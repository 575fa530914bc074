use Rattle.std.proofs.Common.{◌≡◌, ◌++◌, map, reverse, length}
use Rattle.elan_clauses.specs.Rules as spec
use Rattle.elan_clauses.proofs.bound.numbered_back.Given as goal

-- the conditions so far and those that are left, the last one first, are all
abbrev pub invariant-clauses : goal.invariant-clauses
invariant-clauses l =
    l.out ++ reverse (map (spec.numbered_clause l.order) l.clauses) ≡ reverse (map (spec.numbered_clause l.order) l.fn.clauses)

abbrev pub decreases-clauses : goal.decreases-clauses
decreases-clauses l = length l.clauses
