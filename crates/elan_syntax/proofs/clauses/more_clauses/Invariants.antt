use Rattle.std.proofs.Common.{◌≡◌, ◌≤◌, length, []}
use Rattle.elan_syntax.specs.Grammar as grammar
use Rattle.elan_syntax.proofs.clauses.more_clauses.Given as goal

-- what is left to read now is what was left to read at first
abbrev pub invariant-clauses : goal.invariant-clauses
invariant-clauses l = record {
  no_longer : length l.reader.rest ≤ length l.fn.reader.rest;
  same_rest : (grammar.more_clauses []).read l.fn.reader.at l.fn.reader.rest ≡ (grammar.more_clauses l.found).read l.reader.at
      l.reader.rest;
}

-- each turn takes a token
abbrev pub decreases-clauses : goal.decreases-clauses
decreases-clauses l = length l.reader.rest
