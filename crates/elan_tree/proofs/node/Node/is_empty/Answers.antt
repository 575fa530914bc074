use Rattle.std.proofs.Common.{◌≡◌, sym, ◌∙◌, ap, subst}
use Rattle.std.specs.Prelude.{◌==◌}
use Rattle.elan_tree.proofs.Nodes.{is_empty-trees}
use Rattle.elan_tree.specs.Tree as T
use Rattle.elan_tree.specs.Shape.{tree_of}
use Rattle.elan_tree.specs.Listing.{is_empty}
use Rattle.elan_tree.proofs.node.Node.is_empty.Goals as goal

pub returns-in-Cat : goal.returns-in-Cat
returns-in-Cat g c =
    let e : T.Cat (T.trees c.in-Cat.kids.items) ≡ c.args.self.now = sym (ap tree_of c.in-Cat.is) ∙ c.self.view_is in
    let r = c.is_empty.ensures in
    subst (λ t. c.is_empty.result ≡ is_empty t) e (r ∙ ap (λ n. n == 0) c.in-Cat.kids.ok.0 ∙ is_empty-trees c.in-Cat.kids.items)
