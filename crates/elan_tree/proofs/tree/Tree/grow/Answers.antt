use Rattle.std.proofs.Common.{refl}
use Rattle.elan_tree.specs.Growing.{kept}
use Rattle.elan_tree.proofs.Sounds.{fields, fit_of}
use Rattle.elan_tree.proofs.Grown.{moved_sound, answers, refuses}
use Rattle.elan_tree.proofs.tree.Tree.grow.Goals as goal

pub grow-requires-clause-fit : goal.grow-requires-clause-fit
grow-requires-clause-fit g c κs within =
    let f = c.self.inside in
    fit_of g.B.Branch.sense (fields g.B.Branch.sense f.root f.limit f.grown f.released.items f.node) c.branch-root.result.now f.node c.branch-root.ensures refl c.self.invariant

pub invariant_of-self : goal.invariant_of-self
invariant_of-self g c =
    let f = c.self.inside in
    moved_sound g.B.Branch.sense (fields g.B.Branch.sense f.root f.limit f.grown f.released.items f.node) c.branch-root.result.now f.node c.args.spot.now c.args.growth
    (kept c.grow.new.grown c.grow.new.released.items c.grow.new.node) c.branch-root.ensures refl c.self.invariant c.requires c.grow.ensures.moved

pub returns-clause-answer : goal.returns-clause-answer
returns-clause-answer g c =
    let f = c.self.inside in
    answers g.B.Branch.sense (fields g.B.Branch.sense f.root f.limit f.grown f.released.items f.node) c.branch-root.result.now f.node c.args.spot.now c.args.growth
    (kept c.grow.new.grown c.grow.new.released.items c.grow.new.node) c.branch-root.ensures refl c.grow.result c.args.self.now c.self.view_is c.grow.ensures.answer

pub returns-clause-refused : goal.returns-clause-refused
returns-clause-refused g c =
    let f = c.self.inside in
    refuses g.B.Branch.sense (fields g.B.Branch.sense f.root f.limit f.grown f.released.items f.node) c.branch-root.result.now f.node c.args.spot.now c.args.growth
    (kept c.grow.new.grown c.grow.new.released.items c.grow.new.node) c.branch-root.ensures refl c.grow.result c.args.self.now c.self.view_is c.grow.ensures.moved
