use Rattle.std.proofs.Common.{◌≡◌, ◌++◌, reverse, length}
use Rattle.elan_clauses.proofs.bound.turned.Given as goal

-- the conditions so far and those that are left, the last one first, are all
abbrev pub invariant-clauses : goal.invariant-clauses
invariant-clauses l = l.out ++ reverse l.clauses ≡ reverse l.fn.clauses

abbrev pub decreases-clauses : goal.decreases-clauses
decreases-clauses l = length l.clauses
