use Rattle.std.proofs.Common.{◌≡◌, ◌≤◌, length}
use Rattle.elan_phrases.specs.SortExpressions as grammar
use Rattle.elan_phrases.specs.Symbols.{importable}
use Rattle.elan_phrases.proofs.referring.more_references.Given as goal

-- what is left to read now is what was left to read at first
abbrev pub invariant-references : goal.invariant-references
invariant-references l = record {
  no_longer : length l.reader.rest ≤ length l.fn.reader.rest;
  same_rest : (grammar.more_references (importable l.fn.importer) l.fn.before).read l.fn.reader.at l.fn.reader.rest ≡ (grammar.more_references (importable l.fn.importer) l.found).read l.reader.at
      l.reader.rest;
}

-- each turn takes a token
abbrev pub decreases-references : goal.decreases-references
decreases-references l = length l.reader.rest
