use Rattle.std.proofs.Common.{◌≡◌, ◌≤◌, length}
use Rattle.elan_syntax.specs.Grammar as grammar
use Rattle.elan_syntax.proofs.parameters.more_parameters.Given as goal

-- what is left to read now is what was left to read at first
abbrev pub invariant-parameters : goal.invariant-parameters
invariant-parameters l = record {
  no_longer : length l.reader.rest ≤ length l.fn.reader.rest;
  same_rest : (grammar.more_parameters l.fn.before).read l.fn.reader.at l.fn.reader.rest ≡ (grammar.more_parameters l.taken).read l.reader.at
      l.reader.rest;
}

-- each turn takes a token
abbrev pub decreases-parameters : goal.decreases-parameters
decreases-parameters l = length l.reader.rest
