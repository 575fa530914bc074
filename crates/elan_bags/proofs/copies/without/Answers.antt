use Rattle.elan_table.specs.Rows.{terms}
use Rattle.elan_bags.proofs.RowLemmas.{removed_left}
use Rattle.elan_bags.proofs.copies.without.Goals as goal

pub returns-clause-left : goal.returns-clause-left
returns-clause-left g c = λ t e. removed_left (terms c.args.rows.now) (terms c.in_ok-out.out) c.args.place t e c.in_ok-out.ensures
