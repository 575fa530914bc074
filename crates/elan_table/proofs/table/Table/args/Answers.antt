use Rattle.std.proofs.Common.{sym, ◌∙◌}
use Rattle.elan_shared.proofs.NodeLemmas.{arguments-int, arguments-app}
use Rattle.elan_table.proofs.table.Table.args.Goals as goal

pub returns-in-Int : goal.returns-in-Int
returns-in-Int g c = sym (arguments-int _ _ (sym c.row.ensures ∙ c.in-Int.ensures {u = tt}))

pub returns-in-App : goal.returns-in-App
returns-in-App g c = sym (arguments-app _ _ _ (sym c.row.ensures ∙ c.in-App.ensures {u = tt}))
