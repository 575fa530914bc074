use Rattle.std.proofs.Common.{◌≡◌, ◌≤◌, length}
use Rattle.elan_syntax.specs.Grammar as grammar
use Rattle.elan_syntax.proofs.operators.more_spelled.Given as goal

-- what is left to read now is what was left to read at first
abbrev pub invariant-tokens : goal.invariant-tokens
invariant-tokens l = record {
  no_longer : length l.reader.rest ≤ length l.fn.reader.rest;
  same_rest : (grammar.more_spelled).read l.fn.reader.at l.fn.reader.rest ≡ (grammar.more_spelled).read l.reader.at
      l.reader.rest;
}

-- each turn takes a token
abbrev pub decreases-tokens : goal.decreases-tokens
decreases-tokens l = length l.reader.rest
