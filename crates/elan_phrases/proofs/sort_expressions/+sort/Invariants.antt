use Rattle.std.proofs.Common.{◌≡◌, ◌≤◌, ◌+◌, ◌*◌}
use Rattle.elan_phrases.specs.SortExpressions as grammar
use Rattle.elan_phrases.proofs.sort_expressions.+sort.Given as goal

-- each call takes a name first, or stands lower in this order
abbrev pub decreases-sort : goal.decreases-sort
decreases-sort l = 3 * l.left

abbrev pub decreases-arguments : goal.decreases-arguments
decreases-arguments l = 3 * l.left + 2

abbrev pub decreases-more_arguments : goal.decreases-more_arguments
decreases-more_arguments l = 3 * l.left + 1

-- what is left to read now is what was left to read at first, and no more names are left
abbrev pub invariant-more_arguments-arguments : goal.invariant-more_arguments-arguments
invariant-more_arguments-arguments l = record {
  left : l.now ≤ l.fn.left;
  same_rest :
      (grammar.more_arguments grammar.sort l.fn.left).read l.fn.reader.at l.fn.reader.rest
      ≡ (grammar.more_arguments grammar.sort l.now).read l.reader.at l.reader.rest;
}

abbrev pub decreases-more_arguments-arguments : goal.decreases-more_arguments-arguments
decreases-more_arguments-arguments l = l.now
