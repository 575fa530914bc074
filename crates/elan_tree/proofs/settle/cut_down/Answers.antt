use Rattle.std.proofs.Common.{sym, ◌∙◌, ap}
use Rattle.elan_tree.specs.Tree.{trees}
use Rattle.elan_tree.proofs.Cutting.{cut_single, cut_several, several_normal, not_one_same}
use Rattle.elan_tree.proofs.settle.cut_down.Goals as goal

pub returns-in-Ok-clause-settles : goal.returns-in-Ok-clause-settles
returns-in-Ok-clause-settles g c =
    let e = sym c.cut.ensures ∙ ap trees c.in-Ok.ensures in
    cut_single g.B.Branch.sense (g.B.Branch.sense.kin c.args.root.now) c.args.then (trees c.args.kids.items) _ c.under.result.0 c.requires.normal.0.1 e c.under.ensures.settles

pub returns-in-Err-clause-settles : goal.returns-in-Err-clause-settles
returns-in-Err-clause-settles g c =
    cut_several g.B.Branch.sense (g.B.Branch.sense.kin c.args.root.now) c.args.then (trees c.args.kids.items) (trees c.in-Err.kids.items) c.requires.normal.0.1 (ap trees c.in-Err.ensures.0 ∙ c.cut.ensures)

pub returns-in-Err-clause-normal : goal.returns-in-Err-clause-normal
returns-in-Err-clause-normal g c =
    let e = ap trees c.in-Err.ensures.0 ∙ c.cut.ensures in
    several_normal (trees c.args.kids.items) (trees c.in-Err.kids.items) c.requires.normal.0.1 c.requires.normal.1 e (not_one_same _ _ c.in-Err.ensures.0 c.in-Err.ensures.1)
