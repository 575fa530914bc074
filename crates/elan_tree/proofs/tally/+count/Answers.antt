use Rattle.std.proofs.Common.{rules, ◌<◌, ap, arith, length, refl}
use Rattle.elan_tree.specs.Tree.{weight}
use Rattle.elan_tree.proofs.Weights.{weight_left, arm_left}
use Rattle.elan_tree.proofs.tally.+count.Goals as goal

pub count_all-count-requires : goal.count_all-count-requires
count_all-count-requires g t c κs within =
    let lt : c.loop-i.i < length c.args.kids.now.items = omega (arith, c.loop-i-test.true, c.loop-i.invariant.0, c.args.kids.now.ok.0) in
    let light = weight_left c.args.kids.now.items c.args.kids.now.items c.loop-i.i c.index.result.now lt c.index.ensures refl in
    search rules

pub count_arms-count-requires : goal.count_arms-count-requires
count_arms-count-requires g t c κs within =
    let lt : c.loop-i.i < length c.args.arms.now.items = omega (arith, c.loop-i-test.true, c.loop-i.invariant.0, c.args.arms.now.ok.0) in
    let light = arm_left c.args.arms.now.items c.args.arms.now.items c.loop-i.i c.index.result.now lt c.index.ensures refl in
    let same = ap weight c.deref.ensures in
    search rules
