use Rattle.std.proofs.Common.{◌+◌, ◌*◌}
use Rattle.elan_terms.specs.Weight.{pattern_weight, pattern_weights}
use Rattle.elan_program.proofs.patterns.+pattern_sort.Given as goal

abbrev pub decreases-are_of_sorts : goal.decreases-are_of_sorts
decreases-are_of_sorts l = 2 * pattern_weights l.args.now

abbrev pub decreases-are_all_of : goal.decreases-are_all_of
decreases-are_all_of l = 2 * pattern_weights l.args.now

abbrev pub decreases-args_fit : goal.decreases-args_fit
decreases-args_fit l = 2 * pattern_weights l.args.now + 1

abbrev pub decreases-pattern_sort : goal.decreases-pattern_sort
decreases-pattern_sort l = 2 * pattern_weight l.pattern.now + 1

abbrev pub decreases-sort_over : goal.decreases-sort_over
decreases-sort_over l = 2 * pattern_weights l.args.now + 2
