use Rattle.std.proofs.Common.{◌≡◌, sym, ◌∙◌, ap, subst}
use Rattle.std.specs.List.{list_any}
use Rattle.elan_tree.proofs.Nodes.{any_item-trees, sure-flats}
use Rattle.elan_tree.specs.Tree as T
use Rattle.elan_tree.specs.Shape.{tree_of}
use Rattle.elan_tree.specs.Listing.{sure, is_item}
use Rattle.elan_tree.specs.Normal.{Normal}
use Rattle.elan_tree.proofs.node.Node.is_sure.Goals as goal

pub returns-in-Cat : goal.returns-in-Cat
returns-in-Cat g c =
    let e : T.Cat (T.trees c.in-Cat.kids.items) ≡ c.args.self.now = sym (ap tree_of c.in-Cat.is) ∙ c.self.view_is in
    let r = c.any_item.ensures in
    let v = c.deref.ensures.value in
    let n = subst Normal (sym e) c.requires in
    subst (λ t. c.any_item.result ≡ sure t) e (r ∙ ap (list_any is_item) v ∙ any_item-trees c.in-Cat.kids.items ∙ sym (sure-flats (T.trees c.in-Cat.kids.items) n.1))
