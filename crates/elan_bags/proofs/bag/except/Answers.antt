use Rattle.elan_table.specs.Rows.{terms}
use Rattle.elan_bags.proofs.ExceptLemmas.{except_found}
use Rattle.elan_bags.proofs.bag.except.Goals as goal

pub returns : goal.returns
returns g c = except_found (terms c.args.rows.now) (terms c.args.others.now) (terms c.rows.out) (terms c.rows.gone.now) c.rows.left.now
    c.rows.invariant c.in_default.len_below
