use Rattle.std.proofs.Common.{◌≡◌, sym, ◌∙◌, ap, subst}
use Rattle.elan_tree.specs.Tree as T
use Rattle.elan_tree.specs.Shape.{tree_of}
use Rattle.elan_tree.specs.Normal.{Normal}
use Rattle.elan_tree.proofs.KidsLemmas.{not_empty, no_trees, is_zero, not_zero}
use Rattle.elan_tree.proofs.Settled.{emptied}
use Rattle.elan_tree.proofs.settle.pass.Goals as goal

pub cut_down-requires-clause-normal : goal.cut_down-requires-clause-normal
cut_down-requires-clause-normal g c κs within =
    let e : T.Cat (T.trees c.in-Cat.kids.items) ≡ c.args.child.value = sym (ap tree_of c.in-Cat.is) ∙ c.shape.view_is ∙ c.replace.ensures.value ∙ c.deref_mut.ensures.value in
    (subst Normal (sym e) c.requires.normal, not_empty c.in-Cat.kids.items _ c.in-Cat.kids.ok.0 (not_zero c.in-Cat.kids.len c.if-is_empty.ensures))

pub returns-then-is_empty-clause-settles : goal.returns-then-is_empty-clause-settles
returns-then-is_empty-clause-settles g c =
    let e : T.Cat (T.trees c.in-Cat.kids.items) ≡ c.args.child.value = sym (ap tree_of c.in-Cat.is) ∙ c.shape.view_is ∙ c.replace.ensures.value ∙ c.deref_mut.ensures.value in
    emptied g.B.Branch.sense (g.B.Branch.sense.kin c.args.root.now) c.args.one c.args.then c.args.child.value (T.trees c.in-Cat.kids.items) e (no_trees c.in-Cat.kids.items _ c.in-Cat.kids.ok.0 (is_zero c.in-Cat.kids.len c.if-is_empty.ensures))
