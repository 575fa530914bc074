use Rattle.elan_reading.proofs.Operands.{to_left, to_right, grouped_first}
use Rattle.elan_reading.proofs.laws.operands_follow_the_side.Goals as goal

pub returns-clause-left : goal.returns-clause-left
returns-clause-left c = λ g vs op o token xs ys zs x y z between side a b d. to_left g vs op o token between side xs ys zs x y z a b d

pub returns-clause-right : goal.returns-clause-right
returns-clause-right c = λ g vs op o token xs ys zs x y z between side a b d. to_right g vs op o token between side xs ys zs x y z a b d

pub returns-clause-first_grouped : goal.returns-clause-first_grouped
returns-clause-first_grouped c = λ g vs op o token xs ys zs x y z between a b d. grouped_first g vs op o token between xs ys zs x y z a b d
