use Rattle.std.proofs.Common.{◌≡◌, ◌≤◌, length, []}
use Rattle.elan_syntax.specs.Grammar as grammar
use Rattle.elan_syntax.proofs.modules.more_modules.Given as goal

-- what is left to read now is what was left to read at first
abbrev pub invariant-modules : goal.invariant-modules
invariant-modules l = record {
  no_longer : length l.reader.rest ≤ length l.fn.reader.rest;
  same_rest : (grammar.more_modules []).read l.fn.reader.at l.fn.reader.rest ≡ (grammar.more_modules l.found).read l.reader.at
      l.reader.rest;
}

-- each turn takes a token
abbrev pub decreases-modules : goal.decreases-modules
decreases-modules l = length l.reader.rest
