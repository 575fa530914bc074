use Rattle.std.proofs.Common.{sym}
use Rattle.elan_shared.proofs.NodeLemmas.{arguments-int, arguments-app}
use Rattle.elan_shared.proofs.tree.SharedTerm.args.Goals as goal

pub returns-in-Int : goal.returns-in-Int
returns-in-Int c = sym (arguments-int _ _ (c.in-Int.ensures {u = tt}))

pub returns-in-App : goal.returns-in-App
returns-in-App c = sym (arguments-app _ _ _ (c.in-App.ensures {u = tt}))
