use Rattle.std.proofs.Common.{◌≡◌, true}
use Rattle.elan_entries.specs.Found as found
use Rattle.elan_chart.specs.Offers.{entry}
use Rattle.elan_entries.proofs.PutLemmas.{settled_put}
use Rattle.elan_chart.proofs.offers.put_whole.Goals as goal

pub returns-then-is_settled : goal.returns-then-is_settled
returns-then-is_settled c =
    let same = c.as_slice.ensures in let is = c.is_settled.ensures in let yes = c.if-is_settled.true in
    let settled : found.is_settled c.args.run.now c.args.key ≡ true = cc in
    settled_put c.args.run.now (entry c.args.key (found.applied c.args.op (found.joined c.args.tree.now c.args.rest.now))) settled
