use Rattle.elan_shares.proofs.SingleLemmas.{sort-int}
use Rattle.elan_shares.proofs.single.sort_of.Goals as goal

pub returns-in-Int : goal.returns-in-Int
returns-in-Int g c = sort-int g.N.Name.shapes c.shapes.result.now c.args.row.now.value c.in-Int.field-0 c.shapes.ensures (c.in-Int.ensures {u = tt})
