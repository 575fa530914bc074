use Rattle.std.proofs.Common.{◌≡◌, ◌≤◌, length, []}
use Rattle.elan_syntax.specs.Grammar as grammar
use Rattle.elan_syntax.proofs.operators.more_declared.Given as goal

-- what is left to read now is what was left to read at first
abbrev pub invariant-declarations : goal.invariant-declarations
invariant-declarations l = record {
  no_longer : length l.reader.rest ≤ length l.fn.reader.rest;
  same_rest : (grammar.more_declared []).read l.fn.reader.at l.fn.reader.rest ≡ (grammar.more_declared l.found).read l.reader.at
      l.reader.rest;
}

-- each turn takes a token
abbrev pub decreases-declarations : goal.decreases-declarations
decreases-declarations l = length l.reader.rest
