use Rattle.std.proofs.Common.{◌≡◌, sym, ◌∙◌, ap}
use Rattle.elan_tree.specs.Tree as T
use Rattle.elan_tree.specs.Shape.{tree_of}
use Rattle.elan_tree.specs.Listing.{is_item}
use Rattle.elan_tree.specs.Moves.{done}
use Rattle.elan_tree.proofs.Settled.{resumed}
use Rattle.elan_tree.proofs.Nodes.{not_item, under_other}
use Rattle.elan_tree.proofs.settle.under.Goals as goal

pub returns-in-Ok-clause-settles : goal.returns-in-Ok-clause-settles
returns-in-Ok-clause-settles g c =
    let e : T.Item c.in-Item.item ≡ c.args.child.value = sym (ap tree_of c.in-Item.is) ∙ c.node.view_is ∙ c.deref-node.ensures in
    resumed g.B.Branch.sense (g.B.Branch.sense.kin c.args.root.now) c.args.one c.args.child.value c.in-Ok.made c.in-Item.item c.args.then c.get.result.now e c.get.ensures c.in-Ok.ensures

pub returns-in-Err-clause-settles : goal.returns-in-Err-clause-settles
returns-in-Err-clause-settles g c = done

pub returns-in_default : goal.returns-in_default
returns-in_default g c =
    let e : tree_of c.node.inside.shape ≡ c.args.child.value = c.node.view_is ∙ c.deref-node.ensures in
    record {
      settles = done;
      normal = (tt, under_other c.args.one c.args.child.value c.requires.normal.0 (sym (ap is_item e) ∙ not_item c.node.inside.shape c.in_default.not-Item) c.requires.normal.1);
    }
