use Rattle.elan_phrases.proofs.SortMarks.{sort_marks}
use Rattle.elan_phrases.proofs.laws.long_sort_expressions.Goals as goal

pub returns : goal.returns
returns c = sort_marks 64
