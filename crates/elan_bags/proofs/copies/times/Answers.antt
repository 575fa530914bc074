use Rattle.elan_table.specs.Rows.{terms}
use Rattle.elan_bags.proofs.ManyLemmas.{many_found, many_ascends}
use Rattle.elan_bags.proofs.copies.times.Goals as goal

pub returns-clause-value : goal.returns-clause-value
returns-clause-value g c = many_found c.args.many (terms c.args.rows.now) (terms c.rows.out) c.rows.left.now c.rows.invariant c.in_default.len_below

pub returns-clause-ascends : goal.returns-clause-ascends
returns-clause-ascends g c = many_ascends c.args.many (terms c.args.rows.now) (terms c.rows.out) c.rows.left.now c.rows.invariant c.in_default.len_below
