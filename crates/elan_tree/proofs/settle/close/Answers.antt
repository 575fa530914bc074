use Rattle.std.proofs.Common.{◌≡◌, sym, ◌∙◌, ap, subst}
use Rattle.elan_tree.specs.Tree as T
use Rattle.elan_tree.specs.Shape.{tree_of}
use Rattle.elan_tree.specs.Normal.{Below}
use Rattle.elan_tree.specs.Settling.{Settles}
use Rattle.elan_tree.specs.Moves.{done}
use Rattle.elan_tree.proofs.Tidying.{tidied, tidied_normal}
use Rattle.elan_tree.proofs.settle.close.Goals as goal

pub returns-in-Cat-clause-settles : goal.returns-in-Cat-clause-settles
returns-in-Cat-clause-settles g c =
    let e : T.Cat (T.trees c.in-Cat.kids.items) ≡ c.args.node = sym (ap tree_of c.in-Cat.is) ∙ c.node.view_is in
    let P = λ (t : T.Tree _ _ _). Settles g.B.Branch.sense (g.B.Branch.sense.kin c.args.root.now) t c.tidy.result.0 in
    subst P e (tidied g.B.Branch.sense (g.B.Branch.sense.kin c.args.root.now) c.tidy.result.1 (T.trees c.in-Cat.kids.items) c.tidy.result.0 c.tidy.ensures)

pub returns-in-Cat-clause-normal : goal.returns-in-Cat-clause-normal
returns-in-Cat-clause-normal g c =
    let e : T.Cat (T.trees c.in-Cat.kids.items) ≡ c.args.node = sym (ap tree_of c.in-Cat.is) ∙ c.node.view_is in
    tidied_normal c.tidy.result.1 (T.trees c.in-Cat.kids.items) c.tidy.result.0 c.tidy.ensures (subst Below (sym e) c.requires.normal)

pub returns-in_default-clause-settles : goal.returns-in_default-clause-settles
returns-in_default-clause-settles g c =
    let e = c.node.view_is in
    let P = λ (t : T.Tree _ _ _). Settles g.B.Branch.sense (g.B.Branch.sense.kin c.args.root.now) c.args.node t in
    subst P (sym e) done
