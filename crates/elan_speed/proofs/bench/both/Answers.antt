use Rattle.std.proofs.Common.{sym, subst, [], ◌∷◌}
use Rattle.elan_table.specs.Rows.{terms}
use Rattle.elan_table.specs.Nodes.{MayMake}
use Rattle.elan_speed.proofs.Pairs.{may_pair}
use Rattle.elan_speed.proofs.bench.both.Goals as goal

pub returns : goal.returns
returns g c =
    let left = c.args.left.now in let right = c.args.right.now in
    subst (λ a. MayMake g.N.Name.shapes (record { 0 = 0 }) (terms (a ∷ c.again-2.result ∷ []))) (sym c.again.ensures)
    (subst (λ b. MayMake g.N.Name.shapes (record { 0 = 0 }) (terms (left.row ∷ b ∷ []))) (sym c.again-2.ensures)
    (may_pair g.N.Name.shapes left.row right.row left.served left.sorted right.sorted left.low right.low))
