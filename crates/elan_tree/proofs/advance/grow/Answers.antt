use Rattle.std.proofs.Common.{arith}
use Rattle.elan_tree.proofs.Grown.{placed_fit, when}
use Rattle.elan_tree.proofs.Counting.{stood_old}
use Rattle.elan_tree.proofs.advance.grow.Goals as goal

pub advance-requires-clause-fit : goal.advance-requires-clause-fit
advance-requires-clause-fit g c κs within =
    placed_fit g.B.Branch.sense (g.B.Branch.sense.kin c.args.root.now) c.args.spot.now c.args.growth c.args.node.now c.stand.new.node c.requires.fit
    (when _ c.in_ok-stand.field-0 c.if-not-branch.false c.in_ok-stand.ensures.stands) c.requires.growth

pub tell-requires-after_bounds : goal.tell-requires-after_bounds
tell-requires-after_bounds g c κs within =
    let fewer = stood_old g.B.Branch.sense (g.B.Branch.sense.kin c.args.root.now) c.args.limit c.args.spot.now c.args.growth _ _ c.args.node.now c.stand.new.node c.advance.new.node
    (when _ c.in_ok-stand.field-0 c.if-not-branch.false c.in_ok-stand.ensures.stands) c.advance.ensures.steps in
    omega (arith, fewer, c.in_ok-before.ensures)
