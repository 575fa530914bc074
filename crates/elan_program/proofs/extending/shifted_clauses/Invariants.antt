use Rattle.std.proofs.Common.{◌≡◌, ◌++◌, map, drop}
use Rattle.elan_program.specs.Extension as spec
use Rattle.elan_program.proofs.extending.shifted_clauses.Given as goal

-- the conditions so far and those that are left make all
abbrev pub invariant-loop-clause : goal.invariant-loop-clause
invariant-loop-clause l =
    l.out ++ map (spec.shifted_clause l.from) (drop l.clause-index l.clauses) ≡ map (spec.shifted_clause l.from) l.clauses
