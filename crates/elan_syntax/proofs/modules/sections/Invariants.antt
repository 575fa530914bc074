use Rattle.std.proofs.Common.{◌≡◌, ◌≤◌, length, []}
use Rattle.elan_syntax.specs.Grammar as grammar
use Rattle.elan_syntax.proofs.modules.sections.Given as goal

-- what is left to read now is what was left to read at first
abbrev pub invariant-sections : goal.invariant-sections
invariant-sections l = record {
  no_longer : length l.reader.rest ≤ length l.fn.reader.rest;
  same_rest : (grammar.sections []).read l.fn.reader.at l.fn.reader.rest ≡ (grammar.sections l.found).read l.reader.at
      l.reader.rest;
}

-- each turn takes a token
abbrev pub decreases-sections : goal.decreases-sections
decreases-sections l = length l.reader.rest
