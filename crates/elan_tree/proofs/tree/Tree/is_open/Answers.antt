use Rattle.std.proofs.Common.{sym, ◌∙◌, ap}
use Rattle.std.specs.Prelude.{is_some}
use Rattle.elan_tree.specs.Places.{has, numbered}
use Rattle.elan_tree.specs.Marks.{Place, at_place}
use Rattle.elan_tree.proofs.Finding.{some_has, some_copied}
use Rattle.elan_tree.proofs.Over.{has_over}
use Rattle.elan_tree.proofs.tree.Tree.is_open.Goals as goal

pub returns : goal.returns
returns g c =
    let n = c.number.result in
    c.is_some.ensures ∙ sym (some_copied c.find.result) ∙ ap is_some c.find.ensures ∙ some_has (at_place n) c.self.inside.node
    ∙ sym (has_over (λ (p : Place _). p.spot) (numbered n) c.self.inside.node) ∙ (λ i. has (numbered (c.number.ensures i)) (c.self.view_is i).tree)
