use Rattle.elan_table.specs.Rows.{terms}
use Rattle.elan_bags.proofs.OverLemmas.{over_none, over_found}
use Rattle.elan_bags.proofs.bag.over.Goals as goal

pub returns-in-empty : goal.returns-in-empty
returns-in-empty g c = over_none c.args.many c.args.rows.now c.new-out.result c.in-empty.len_below c.new-out.ensures c.requires

pub returns : goal.returns
returns g c = over_found c.args.many (terms c.args.rows.now) (terms c.rows.out) c.rows.last.now.value c.rows.seen c.rows.left.now
    c.rows.invariant.all c.in_default.len_below c.requires
