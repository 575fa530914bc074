use Rattle.std.proofs.Common.{rules, ◌≡◌, ◌<◌, ◌++◌, ◌∙◌, ap, arith, length, refl}
use Rattle.elan_tree.specs.Tree.{weight}
use Rattle.elan_tree.specs.Places.{places}
use Rattle.elan_tree.specs.Marks.{fresh_spots}
use Rattle.elan_tree.proofs.Counting.{list_next, list_arm_next}
use Rattle.elan_tree.proofs.Weights.{weight_left, arm_left}
use Rattle.elan_tree.proofs.tally.+list.Goals as goal

pub list_all-list-requires : goal.list_all-list-requires
list_all-list-requires g t c κs within =
    let lt : c.loop-i.i < length c.args.kids.now.items = omega (arith, c.loop-i-test.true, c.loop-i.invariant.0, c.args.kids.now.ok.0) in
    let light = weight_left c.args.kids.now.items c.args.kids.now.items c.loop-i.i c.index.result.now lt c.index.ensures refl in
    search rules

pub list_arms-list-requires : goal.list_arms-list-requires
list_arms-list-requires g t c κs within =
    let lt : c.loop-i.i < length c.args.arms.now.items = omega (arith, c.loop-i-test.true, c.loop-i.invariant.0, c.args.arms.now.ok.0) in
    let light = arm_left c.args.arms.now.items c.args.arms.now.items c.loop-i.i c.index.result.now lt c.index.ensures refl in
    let same = ap weight c.deref.ensures in
    search rules

pub list_all-loop-i-preserved : goal.list_all-loop-i-preserved
list_all-loop-i-preserved g t c =
    let lt : c.loop-i.i < length c.args.kids.now.items = omega (arith, c.loop-i-test.true, c.loop-i.invariant.0, c.args.kids.now.ok.0) in (
      c.loop-i.invariant.0,
      list_next c.args.kids.now.items c.loop-i.i c.index.result.now c.loop-i.out.items c.list.new.out.items _ lt c.index.ensures c.in_ok-list.ensures c.loop-i.invariant.1,
    )

pub list_arms-loop-i-preserved : goal.list_arms-loop-i-preserved
list_arms-loop-i-preserved g t c =
    let lt : c.loop-i.i < length c.args.arms.now.items = omega (arith, c.loop-i-test.true, c.loop-i.invariant.0, c.args.arms.now.ok.0) in
    let same : c.deref.result.now ≡ c.index.result.now.node.value = c.deref.ensures in (
      c.loop-i.invariant.0,
      list_arm_next c.args.arms.now.items c.loop-i.i c.index.result.now c.loop-i.out.items c.list.new.out.items _ lt c.index.ensures
          (c.in_ok-list.ensures ∙ ap (λ t. c.loop-i.out.items ++ fresh_spots (places t)) same) c.loop-i.invariant.1,
    )
