use Rattle.std.proofs.Common.{refl}
use Rattle.elan_tree.proofs.Sounds.{fields, fit_of, advanced_sound, advanced}
use Rattle.elan_tree.proofs.tree.Tree.settle.Goals as goal

pub advance-requires-clause-fit : goal.advance-requires-clause-fit
advance-requires-clause-fit g c κs within =
    let f = c.self.inside in
    fit_of g.B.Branch.sense (fields g.B.Branch.sense f.root f.limit f.grown f.released.items f.node) c.branch-root.result.now f.node c.branch-root.ensures refl c.self.invariant

pub invariant_of-self : goal.invariant_of-self
invariant_of-self g c =
    let f = c.self.inside in
    advanced_sound g.B.Branch.sense (fields g.B.Branch.sense f.root f.limit f.grown f.released.items f.node) c.branch-root.result.now c.advance.new.released.items f.node c.advance.new.node
    c.branch-root.ensures refl c.self.invariant c.advance.ensures.steps

pub returns-clause-advances : goal.returns-clause-advances
returns-clause-advances g c =
    let f = c.self.inside in
    advanced g.B.Branch.sense (fields g.B.Branch.sense f.root f.limit f.grown f.released.items f.node) c.args.self.now c.branch-root.result.now c.advance.new.released.items f.node
    c.advance.new.node c.self.view_is c.branch-root.ensures refl c.advance.ensures.steps
