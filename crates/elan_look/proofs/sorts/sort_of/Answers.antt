use Rattle.elan_look.proofs.SightLemmas.{sort-int}
use Rattle.elan_look.proofs.sorts.sort_of.Goals as goal

pub returns-in-Int : goal.returns-in-Int
returns-in-Int g c = sort-int g.N.Name.shapes c.shapes.result.now c.args.term.now.value c.in-Int.field-0 c.shapes.ensures (c.in-Int.ensures {u = tt})
