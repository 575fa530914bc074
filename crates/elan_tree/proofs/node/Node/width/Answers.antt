use Rattle.std.proofs.Common.{◌≡◌, sym, ◌∙◌, ap, arith}
use Rattle.elan_tree.specs.Tree as T
use Rattle.elan_tree.specs.Shape.{tree_of}
use Rattle.elan_tree.specs.Kids.{width}
use Rattle.elan_tree.proofs.KidsLemmas.{count-trees}
use Rattle.elan_tree.proofs.node.Node.width.Goals as goal

pub returns-in-Cat : goal.returns-in-Cat
returns-in-Cat g c =
    let e : T.Cat (T.trees c.in-Cat.kids.items) ≡ c.args.self.now = sym (ap tree_of c.in-Cat.is) ∙ c.self.view_is in
    let f = ap width e in
    omega (arith, c.len.ensures, f, count-trees c.in-Cat.kids.items, c.in-Cat.kids.ok.0)
