use Rattle.std.proofs.Common.{◌≡◌, [], sym, ◌∙◌, ap, subst, refl}
use Rattle.std.proofs.lemmas.List.{nil_from_length}
use Rattle.elan_tree.specs.Tree.{trees, Trees, none}
use Rattle.elan_tree.specs.Planting.{AllPosted}
use Rattle.elan_tree.proofs.KidsLemmas.{is_zero, not_zero}
use Rattle.elan_tree.proofs.Tidying.{some_arms}
use Rattle.elan_tree.proofs.Planting.{head_is, planted_next, planted_all}
use Rattle.elan_tree.specs.Marks.{IsFresh}
use Rattle.elan_tree.proofs.plant.plant_many.Goals as goal

pub rest-init : goal.rest-init
rest-init g c =
    let nothing : none ≡ trees c.in_ok-kids.kids.items = ap trees (sym c.in_ok-kids.ensures.items) in
    ([], refl, subst (λ (ts : Trees _ _ _). AllPosted IsFresh [] ts) nothing tt)

pub rest-preserved : goal.rest-preserved
rest-preserved g c =
    planted_next IsFresh c.args.branches.items c.rest.invariant.0 c.rest.branches.items c.remove-branch.new.self.items c.remove-branch.result c.rest.kids.items c.push.new.self.items c.in_ok-post.field-0
    c.rest.invariant.1 c.rest.invariant.2 (head_is c.rest.branches.items c.remove-branch.new.self.items c.remove-branch.result (some_arms c.rest.branches.items _ c.rest.branches.ok.0 (not_zero c.rest.branches.len c.rest-test.ensures)) c.remove-branch.ensures.value c.remove-branch.ensures.items) c.in_ok-post.ensures c.in_ok-push.ensures.items

pub returns : goal.returns
returns g c =
    (trees c.rest.kids.items, refl, planted_all IsFresh c.args.branches.items c.rest.invariant.0 c.rest.branches.items (trees c.rest.kids.items) c.rest.invariant.1 (nil_from_length c.rest.branches.items (sym c.rest.branches.ok.0 ∙ is_zero c.rest.branches.len c.rest-test.ensures)) c.rest.invariant.2)
