use Rattle.std.proofs.Common.{sym, ◌∙◌}
use Rattle.elan_table.proofs.Sorts.{sort_of-int, sort_of-app}
use Rattle.elan_table.proofs.condition.sort_of.Goals as goal

pub returns-in-Int : goal.returns-in-Int
returns-in-Int g c = sym (sort_of-int _ _ _ (c.in-Int.ensures {u = tt}))

pub returns-in-App : goal.returns-in-App
returns-in-App g c = c.op_sort.ensures ∙ sym (sort_of-app _ _ _ _ (c.in-App.ensures {u = tt}))
