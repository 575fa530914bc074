use Rattle.std.proofs.Common.{◌≡◌, ◌≤◌, length}
use Rattle.elan_phrases.specs.SortExpressions as grammar
use Rattle.elan_phrases.proofs.referring.more_actuals.Given as goal

-- what is left to read now is what was left to read at first
abbrev pub invariant-arguments : goal.invariant-arguments
invariant-arguments l = record {
  no_longer : length l.reader.rest ≤ length l.fn.reader.rest;
  same_rest : (grammar.more_actuals).read l.fn.reader.at l.fn.reader.rest ≡ (grammar.more_actuals).read l.reader.at
      l.reader.rest;
}

-- each turn takes a token
abbrev pub decreases-arguments : goal.decreases-arguments
decreases-arguments l = length l.reader.rest
