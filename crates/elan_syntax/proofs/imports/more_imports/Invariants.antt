use Rattle.std.proofs.Common.{◌≡◌, ◌≤◌, length, []}
use Rattle.elan_syntax.specs.Grammar as grammar
use Rattle.elan_syntax.proofs.imports.more_imports.Given as goal

-- what is left to read now is what was left to read at first
abbrev pub invariant-imports : goal.invariant-imports
invariant-imports l = record {
  no_longer : length l.reader.rest ≤ length l.fn.reader.rest;
  same_rest : (grammar.more_imports []).read l.fn.reader.at l.fn.reader.rest ≡ (grammar.more_imports l.found).read l.reader.at
      l.reader.rest;
}

-- each turn takes a token
abbrev pub decreases-imports : goal.decreases-imports
decreases-imports l = length l.reader.rest
