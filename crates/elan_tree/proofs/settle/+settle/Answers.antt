use Rattle.std.proofs.Common.{rules, ◌<◌, sym, ◌∙◌, ap, subst, arith, length, refl}
use Rattle.std.proofs.lemmas.List.{length-set}
use Rattle.elan_tree.specs.Tree.{Tree, trees, weight}
use Rattle.elan_tree.specs.Shape.{arms_of}
use Rattle.elan_tree.specs.Moves.{done}
use Rattle.elan_tree.specs.Settling.{Fit, Settles}
use Rattle.elan_tree.proofs.Stars.{star_trans}
use Rattle.elan_tree.proofs.Weights.{weight_left, arm_left}
use Rattle.elan_tree.proofs.Sounds.{fit_star}
use Rattle.elan_tree.proofs.SettlesAll.{settle_then, rest_fits, this_fits, first_normals, settle_arm_then, rest_arms_fit, this_arm_fits, first_arms, still}
use Rattle.elan_tree.proofs.Below.{below_cat, below_first, below_then, below_same}
use Rattle.elan_tree.proofs.settle.+settle.Goals as goal
use Rattle.elan_tree.proofs.settle.+settle.Goals.{settle_below-in-Cat, settle_below-in-First, settle_below-in-Then, settle_below-in-Item, settle_below-in-Item-2}

pub settle-close-made-requires-clause-fit : goal.settle-close-made-requires-clause-fit
settle-close-made-requires-clause-fit g t c κs within =
    subst (Fit g.B.Branch.sense (g.B.Branch.sense.kin c.args.root.now)) (sym c.replace-whole.ensures.value) (fit_star g.B.Branch.sense (g.B.Branch.sense.kin c.args.root.now) c.settle_below.ensures.settles c.requires.fit)

pub settle-returns-clause-settles : goal.settle-returns-clause-settles
settle-returns-clause-settles g t c =
    let P = λ (x : Tree _ _ _). Settles g.B.Branch.sense (g.B.Branch.sense.kin c.args.root.now) x c.close-made.result.0 in
    star_trans c.settle_below.ensures.settles (subst P c.replace-whole.ensures.value c.close-made.ensures.settles)

pub settle_all-loop-i-init : goal.settle_all-loop-i-init
settle_all-loop-i-init g t c = (refl, sym c.len-i-end.ensures, done, c.requires.fit, refl, tt)

pub settle_all-settle-requires : goal.settle_all-settle-requires
settle_all-settle-requires g t c κs within =
    let lt : c.loop-i.i < length c.loop-i.kids.items = omega (arith, c.loop-i-test.true, c.loop-i.invariant.1, c.loop-i.kids.ok.0) in
    let light = weight_left c.loop-i.kids.items c.args.kids.now.items c.loop-i.i c.index_mut.result.now lt c.index_mut.ensures.value c.loop-i.invariant.4 in
    let fits : Fit g.B.Branch.sense (g.B.Branch.sense.kin c.args.root.now) c.index_mut.result.now = this_fits g.B.Branch.sense (g.B.Branch.sense.kin c.args.root.now) c.loop-i.kids.items c.loop-i.i c.index_mut.result.now lt c.index_mut.ensures.value c.loop-i.invariant.3 in
    (search rules, (within.0, (within.1.0, (within.1.1.0, (within.1.1.1.0, (within.1.1.1.1.0, (within.1.1.1.1.1, search rules)))))))

pub settle_all-returns-in_err-settle-clause-settles : goal.settle_all-returns-in_err-settle-clause-settles
settle_all-returns-in_err-settle-clause-settles g t c =
    let lt : c.loop-i.i < length c.loop-i.kids.items = omega (arith, c.loop-i-test.true, c.loop-i.invariant.1, c.loop-i.kids.ok.0) in
    settle_then g.B.Branch.sense (g.B.Branch.sense.kin c.args.root.now) (trees c.args.kids.now.items) c.loop-i.kids.items c.loop-i.i
    c.index_mut.result.now c.settle.new.node c.loop-i.invariant.2 lt c.index_mut.ensures.value c.settle.ensures.settles

pub settle_all-loop-i-preserved : goal.settle_all-loop-i-preserved
settle_all-loop-i-preserved g t c =
    let items = c.loop-i.kids.items in
    let new = c.settle.new.node in
    let h = c.in_ok-settle.ensures in
    let lt : c.loop-i.i < length items = omega (arith, c.loop-i-test.true, c.loop-i.invariant.1, c.loop-i.kids.ok.0) in (
      length-set items c.loop-i.i new ∙ c.loop-i.invariant.0,
      c.loop-i.invariant.1,
      settle_then g.B.Branch.sense (g.B.Branch.sense.kin c.args.root.now) (trees c.args.kids.now.items) items c.loop-i.i c.index_mut.result.now new c.loop-i.invariant.2 lt c.index_mut.ensures.value c.settle.ensures.settles,
      rest_fits g.B.Branch.sense (g.B.Branch.sense.kin c.args.root.now) items c.loop-i.i c.index_mut.result.now new lt c.loop-i.invariant.3,
      still items c.args.kids.now.items c.loop-i.i c.index_mut.result.now new lt c.loop-i.invariant.0 c.loop-i.invariant.4,
      first_normals items c.loop-i.i new lt c.loop-i.invariant.5 h.normal,
    )

pub settle_arms-loop-i-init : goal.settle_arms-loop-i-init
settle_arms-loop-i-init g t c = (refl, sym c.len-i-end.ensures, done, c.requires.fit, refl, tt)

pub settle_arms-settle-requires : goal.settle_arms-settle-requires
settle_arms-settle-requires g t c κs within =
    let lt : c.loop-i.i < length c.loop-i.arms.items = omega (arith, c.loop-i-test.true, c.loop-i.invariant.1, c.loop-i.arms.ok.0) in
    let light = arm_left c.loop-i.arms.items c.args.arms.now.items c.loop-i.i c.index_mut.result.now lt c.index_mut.ensures.value c.loop-i.invariant.4 in
    let same = ap weight c.deref_mut.ensures.value in
    let fits : Fit g.B.Branch.sense (g.B.Branch.sense.kin c.args.root.now) c.deref_mut.result.now = subst (Fit g.B.Branch.sense (g.B.Branch.sense.kin c.args.root.now)) (sym c.deref_mut.ensures.value) (this_arm_fits g.B.Branch.sense (g.B.Branch.sense.kin c.args.root.now) c.loop-i.arms.items c.loop-i.i c.index_mut.result.now lt c.index_mut.ensures.value c.loop-i.invariant.3) in
    (search rules, (within.0, (within.1.0, (within.1.1.0, (within.1.1.1.0, (within.1.1.1.1.0, (within.1.1.1.1.1, search rules)))))))

pub settle_arms-returns-in_err-settle-clause-settles : goal.settle_arms-returns-in_err-settle-clause-settles
settle_arms-returns-in_err-settle-clause-settles g t c =
    let lt : c.loop-i.i < length c.loop-i.arms.items = omega (arith, c.loop-i-test.true, c.loop-i.invariant.1, c.loop-i.arms.ok.0) in
    settle_arm_then g.B.Branch.sense (g.B.Branch.sense.kin c.args.root.now) (arms_of c.args.arms.now.items) c.loop-i.arms.items c.loop-i.i
    c.index_mut.result.now _ c.loop-i.invariant.2 lt c.index_mut.ensures.value refl
    (subst (λ (x : Tree _ _ _). Settles g.B.Branch.sense (g.B.Branch.sense.kin c.args.root.now) x c.settle.new.node) c.deref_mut.ensures.value c.settle.ensures.settles)

pub settle_arms-loop-i-preserved : goal.settle_arms-loop-i-preserved
settle_arms-loop-i-preserved g t c =
    let items = c.loop-i.arms.items in
    let h = c.in_ok-settle.ensures in
    let lt : c.loop-i.i < length items = omega (arith, c.loop-i-test.true, c.loop-i.invariant.1, c.loop-i.arms.ok.0) in (
      length-set items c.loop-i.i _ ∙ c.loop-i.invariant.0,
      c.loop-i.invariant.1,
      settle_arm_then g.B.Branch.sense (g.B.Branch.sense.kin c.args.root.now) (arms_of c.args.arms.now.items) items c.loop-i.i c.index_mut.result.now _ c.loop-i.invariant.2 lt c.index_mut.ensures.value refl
          (subst (λ (x : Tree _ _ _). Settles g.B.Branch.sense (g.B.Branch.sense.kin c.args.root.now) x c.settle.new.node) c.deref_mut.ensures.value c.settle.ensures.settles),
      rest_arms_fit g.B.Branch.sense (g.B.Branch.sense.kin c.args.root.now) items c.loop-i.i c.index_mut.result.now _ lt c.loop-i.invariant.3,
      still items c.args.arms.now.items c.loop-i.i c.index_mut.result.now _ lt c.loop-i.invariant.0 c.loop-i.invariant.4,
      first_arms items c.loop-i.i _ lt c.loop-i.invariant.5 h.normal,
    )

pub settle_below-returns-clause-settles : goal.settle_below-returns-clause-settles
settle_below-returns-clause-settles g t c =
    elim c.match-node.branch [
      | settle_below-in-Cat w ↦ below_cat g.B.Branch.sense (g.B.Branch.sense.kin c.args.root.now) c.node.inside.shape c.match-node.node-inside.shape c.args.node.now _ _ c.node.view_is w.in-Cat.is (ap (λ i. i.shape) w.node-inside-is) w.settle_all.ensures.settles
      | settle_below-in-First w ↦ below_first g.B.Branch.sense (g.B.Branch.sense.kin c.args.root.now) c.node.inside.shape c.match-node.node-inside.shape c.args.node.now _ _ _ c.node.view_is w.in-First.is (ap (λ i. i.shape) w.node-inside-is) w.settle_arms.ensures.settles
      | settle_below-in-Then w ↦ below_then g.B.Branch.sense (g.B.Branch.sense.kin c.args.root.now) c.node.inside.shape c.match-node.node-inside.shape c.args.node.now _ _ _ _ c.node.view_is w.in-Then.is (ap (λ i. i.shape) w.node-inside-is)
          (subst (λ (x : Tree _ _ _). Settles g.B.Branch.sense (g.B.Branch.sense.kin c.args.root.now) x w.settle.new.node) w.deref_mut.ensures.value w.settle.ensures.settles)
      | settle_below-in-Item w ↦ below_same g.B.Branch.sense (g.B.Branch.sense.kin c.args.root.now) c.node.inside.shape c.match-node.node-inside.shape c.args.node.now c.node.view_is (ap (λ i. i.shape) w.node-inside-is)
      | settle_below-in-Item-2 w ↦ below_same g.B.Branch.sense (g.B.Branch.sense.kin c.args.root.now) c.node.inside.shape c.match-node.node-inside.shape c.args.node.now c.node.view_is (ap (λ i. i.shape) w.node-inside-is)
    ]
