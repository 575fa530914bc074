use Rattle.std.proofs.Common.{◌≡◌, ◌≤◌, length}
use Rattle.elan_phrases.specs.SortExpressions as grammar
use Rattle.elan_phrases.proofs.sort_expressions.more_sorts.Given as goal

-- what is left to read now is what was left to read at first
abbrev pub invariant-sorts : goal.invariant-sorts
invariant-sorts l = record {
  no_longer : length l.reader.rest ≤ length l.fn.reader.rest;
  same_rest : (grammar.more_sorts l.fn.before).read l.fn.reader.at l.fn.reader.rest ≡ (grammar.more_sorts l.found).read l.reader.at
      l.reader.rest;
}

-- each turn takes a token
abbrev pub decreases-sorts : goal.decreases-sorts
decreases-sorts l = length l.reader.rest
