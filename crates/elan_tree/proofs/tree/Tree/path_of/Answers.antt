use Rattle.std.proofs.Common.{sym, ◌∙◌}
use Rattle.std.proofs.lemmas.Result.{IfOk-weaker}
use Rattle.elan_tree.specs.Places.{numbered}
use Rattle.elan_tree.specs.Paths.{path_at}
use Rattle.elan_tree.specs.Marks.{Place}
use Rattle.elan_tree.proofs.Over.{path_over}
use Rattle.elan_tree.proofs.tree.Tree.path_of.Goals as goal

pub returns : goal.returns
returns g c =
    IfOk-weaker c.way_to.result _ _
    (λ p e. e ∙ sym (path_over (λ (p : Place _). p.spot) (numbered c.number.result) c.self.inside.node) ∙ (λ i. path_at (numbered (c.number.ensures i)) (c.self.view_is i).tree))
    c.way_to.ensures
