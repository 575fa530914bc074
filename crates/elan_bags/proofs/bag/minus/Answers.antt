use Rattle.elan_table.specs.Rows.{terms}
use Rattle.elan_bags.proofs.MinusLemmas.{minus_found, minus_absent}
use Rattle.elan_bags.proofs.bag.minus.Goals as goal

pub returns-in-empty : goal.returns-in-empty
returns-in-empty g c = minus_found (terms c.args.rows.now) (terms c.args.others.now) (terms c.rows.out) c.rows.left.now c.rows.gone.now
    c.rows.invariant c.in_default.len_below c.in-empty.len_below

pub returns-in-len1-up-gone : goal.returns-in-len1-up-gone
returns-in-len1-up-gone g c = minus_absent (terms c.args.rows.now) (terms c.args.others.now) (terms c.rows.out) c.rows.left.now c.rows.gone.now
    c.rows.invariant c.in_default.len_below c.in-len1-up-gone.len_at_least
