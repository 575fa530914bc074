use Rattle.std.proofs.Common.{◌≡◌, ◌≤◌, length}
use Rattle.elan_syntax.specs.Grammar as grammar
use Rattle.elan_syntax.proofs.definitions.more_labels.Given as goal

-- what is left to read now is what was left to read at first
abbrev pub invariant-labels : goal.invariant-labels
invariant-labels l = record {
  no_longer : length l.reader.rest ≤ length l.fn.reader.rest;
  same_rest : (grammar.more_labels l.fn.before).read l.fn.reader.at l.fn.reader.rest ≡ (grammar.more_labels l.found).read l.reader.at
      l.reader.rest;
}

-- each turn takes a token
abbrev pub decreases-labels : goal.decreases-labels
decreases-labels l = length l.reader.rest
