use Rattle.std.proofs.Common.{rules, ◌<◌, ◌∙◌, ap, arith, length, refl}
use Rattle.std.proofs.lemmas.List.{length-set}
use Rattle.elan_tree.specs.Tree.{weight}
use Rattle.elan_tree.specs.Marks.{unmarked}
use Rattle.elan_tree.proofs.Weights.{weight_left, arm_left}
use Rattle.elan_tree.proofs.SettlesAll.{still}
use Rattle.elan_tree.proofs.Unmarking.{clear_next, clear_arm}
use Rattle.elan_tree.proofs.replace.+unmark.Goals as goal

pub unmark_all-unmark-requires : goal.unmark_all-unmark-requires
unmark_all-unmark-requires g t c κs within =
    let lt : c.loop-i.i < length c.loop-i.kids.items = omega (arith, c.loop-i-test.true, c.loop-i.invariant.0, c.loop-i.kids.ok.0) in
    let light = weight_left c.loop-i.kids.items c.args.kids.now.items c.loop-i.i c.index_mut.result.now lt c.index_mut.ensures.value c.loop-i.invariant.2 in
    search rules

pub unmark_all-loop-i-preserved : goal.unmark_all-loop-i-preserved
unmark_all-loop-i-preserved g t c =
    let lt : c.loop-i.i < length c.loop-i.kids.items = omega (arith, c.loop-i-test.true, c.loop-i.invariant.0, c.loop-i.kids.ok.0) in (
      c.loop-i.invariant.0,
      length-set c.loop-i.kids.items c.loop-i.i c.unmark.new.node ∙ c.loop-i.invariant.1,
      still c.loop-i.kids.items c.args.kids.now.items c.loop-i.i c.index_mut.result.now c.unmark.new.node lt c.loop-i.invariant.1 c.loop-i.invariant.2,
      clear_next c.loop-i.kids.items c.args.kids.now.items c.loop-i.i c.index_mut.result.now c.unmark.new.node lt c.loop-i.invariant.1 c.loop-i.invariant.2 c.loop-i.invariant.3
          c.index_mut.ensures.value c.unmark.ensures,
    )

pub unmark_arms-unmark-requires : goal.unmark_arms-unmark-requires
unmark_arms-unmark-requires g t c κs within =
    let lt : c.loop-i.i < length c.loop-i.arms.items = omega (arith, c.loop-i-test.true, c.loop-i.invariant.0, c.loop-i.arms.ok.0) in
    let light = arm_left c.loop-i.arms.items c.args.arms.now.items c.loop-i.i c.index_mut.result.now lt c.index_mut.ensures.value c.loop-i.invariant.2 in
    let same = ap weight c.deref_mut.ensures.value in
    search rules

pub unmark_arms-loop-i-preserved : goal.unmark_arms-loop-i-preserved
unmark_arms-loop-i-preserved g t c =
    let lt : c.loop-i.i < length c.loop-i.arms.items = omega (arith, c.loop-i-test.true, c.loop-i.invariant.0, c.loop-i.arms.ok.0) in (
      c.loop-i.invariant.0,
      length-set c.loop-i.arms.items c.loop-i.i _ ∙ c.loop-i.invariant.1,
      still c.loop-i.arms.items c.args.arms.now.items c.loop-i.i c.index_mut.result.now _ lt c.loop-i.invariant.1 c.loop-i.invariant.2,
      clear_arm c.loop-i.arms.items c.args.arms.now.items c.loop-i.i c.index_mut.result.now _ lt c.loop-i.invariant.1 c.loop-i.invariant.2 c.loop-i.invariant.3
          c.index_mut.ensures.value (c.unmark.ensures ∙ ap unmarked c.deref_mut.ensures.value) refl,
    )
