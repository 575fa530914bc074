use Rattle.std.proofs.Common.{rules, arith}
use Rattle.std.proofs.lemmas.Grind.{common_steps}
use Rattle.elan_modules.specs.Sorts.{replaced, separators}
use Rattle.elan_modules.proofs.SortLemmas.{names_are, separators_append}
use Rattle.elan_modules.proofs.sorts.has_many.Goals as goal

pub returns-then-more-count : goal.returns-then-more-count
unfolding replaced
returns-then-more-count c = grind (arith, common_steps, rules, separators_append, names_are)

pub words-preserved : goal.words-preserved
unfolding replaced
words-preserved c = grind (arith, common_steps, rules, separators_append)

pub returns : goal.returns
unfolding replaced separators
returns c = grind (arith, common_steps, rules, names_are)
