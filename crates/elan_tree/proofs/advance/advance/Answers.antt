use Rattle.elan_tree.proofs.Stars.{star_trans}
use Rattle.elan_tree.proofs.Releasing.{settles_steps}
use Rattle.elan_tree.proofs.advance.advance.Goals as goal

pub returns-in_err-settle-clause-steps : goal.returns-in_err-settle-clause-steps
returns-in_err-settle-clause-steps g c =
    settles_steps g.B.Branch.sense (g.B.Branch.sense.kin c.args.root.now) c.args.limit c.args.released.now.items c.settle.ensures.settles

pub returns-in_err-release-clause-steps : goal.returns-in_err-release-clause-steps
returns-in_err-release-clause-steps g c =
    star_trans (settles_steps g.B.Branch.sense (g.B.Branch.sense.kin c.args.root.now) c.args.limit c.args.released.now.items c.settle.ensures.settles) c.release.ensures.steps

pub returns-clause-steps : goal.returns-clause-steps
returns-clause-steps g c =
    star_trans (settles_steps g.B.Branch.sense (g.B.Branch.sense.kin c.args.root.now) c.args.limit c.args.released.now.items c.settle.ensures.settles) c.release.ensures.steps
