use Rattle.std.proofs.Common.{sym, ◌∙◌, subst, refl}
use Rattle.std.proofs.lemmas.List.{nil_from_length}
use Rattle.elan_tree.specs.Tree.{Tree}
use Rattle.elan_tree.specs.Shape.{arms_of}
use Rattle.elan_tree.specs.Planting.{Posted}
use Rattle.elan_tree.proofs.KidsLemmas.{is_zero, not_zero}
use Rattle.elan_tree.proofs.Tidying.{some_arms}
use Rattle.elan_tree.proofs.Planting.{head_is, scope_next, scope_all}
use Rattle.elan_tree.specs.Marks.{IsFresh}
use Rattle.elan_tree.proofs.plant.plant_scope.Goals as goal

pub rest-preserved : goal.rest-preserved
rest-preserved g c =
    let made = c.in_ok-node.ensures.ok in
    scope_next IsFresh c.args.alts.items c.rest.invariant.0 c.rest.alts.items c.remove-branch.new.self.items c.remove-branch.result c.rest.arms.items c.push.new.self.items _
    c.rest.invariant.1 c.rest.invariant.2 (head_is c.rest.alts.items c.remove-branch.new.self.items c.remove-branch.result (some_arms c.rest.alts.items _ c.rest.alts.ok.0 (not_zero c.rest.alts.len c.rest-test.ensures)) c.remove-branch.ensures.value c.remove-branch.ensures.items) (subst (λ (t : Tree _ _ _). Posted IsFresh c.remove-branch.result.0 t) (sym made) c.in_ok-post.ensures) c.from_arc.ensures c.in_ok-push.ensures.items

pub returns : goal.returns
returns g c =
    (arms_of c.rest.arms.items, refl, scope_all IsFresh c.args.alts.items c.rest.invariant.0 c.rest.alts.items (arms_of c.rest.arms.items) c.rest.invariant.1 (nil_from_length c.rest.alts.items (sym c.rest.alts.ok.0 ∙ is_zero c.rest.alts.len c.rest-test.ensures)) c.rest.invariant.2)
