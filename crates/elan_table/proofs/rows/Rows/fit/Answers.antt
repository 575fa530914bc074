use Rattle.elan_table.proofs.Conditions.{takes_many, takes_each}
use Rattle.elan_table.proofs.rows.Rows.fit.Goals as goal

pub returns-then-rows-ge2 : goal.returns-then-rows-ge2
returns-then-rows-ge2 g c = takes_many g.N.Name.shapes c.args.shape.now c.args.rows.now _ c.if-shape.true c.if-rows-ge2.true c.have_sort.ensures

pub returns-else-shape : goal.returns-else-shape
returns-else-shape g c = takes_each g.N.Name.shapes c.args.shape.now c.args.rows.now _ c.if-shape.false _ c.as_slice.ensures c.have_sorts.ensures
