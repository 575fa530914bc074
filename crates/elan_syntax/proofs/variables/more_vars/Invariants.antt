use Rattle.std.proofs.Common.{◌≡◌, ◌≤◌, length}
use Rattle.elan_syntax.specs.Grammar as grammar
use Rattle.elan_syntax.proofs.variables.more_vars.Given as goal

-- what is left to read now is what was left to read at first
abbrev pub invariant-vars : goal.invariant-vars
invariant-vars l = record {
  no_longer : length l.reader.rest ≤ length l.fn.reader.rest;
  same_rest : (grammar.more_vars l.fn.before).read l.fn.reader.at l.fn.reader.rest ≡ (grammar.more_vars l.found).read l.reader.at
      l.reader.rest;
}

-- each turn takes a token
abbrev pub decreases-vars : goal.decreases-vars
decreases-vars l = length l.reader.rest
