use Rattle.std.proofs.Common.{◌≡◌, ◌++◌, drop}
use Rattle.elan_program.proofs.copies.copy_clauses.Given as goal

-- the copies so far and the conditions that are left are all conditions
abbrev pub invariant-loop-clause : goal.invariant-loop-clause
invariant-loop-clause l = l.copies ++ drop l.clause-index l.clauses ≡ l.clauses
