use Rattle.std.proofs.Common.{sym, ◌∙◌, ap, subst}
use Rattle.elan_tree.specs.Tree.{Arms}
use Rattle.elan_tree.specs.Shape.{arms_of}
use Rattle.elan_tree.specs.Listing.{sure}
use Rattle.elan_tree.specs.Normal.{Normal, NormalArms}
use Rattle.elan_tree.specs.Settling.{FitArms}
use Rattle.elan_tree.proofs.KidsLemmas.{is_zero, not_zero}
use Rattle.elan_tree.proofs.Tidying.{Full, trimmed_full, trim_normal, some_arms, first_normal, bare_not, no_arms_of, trim_fit, first_fit, trims, trims_all, commits}
use Rattle.elan_tree.proofs.settle.choose.Goals as goal

pub returns-then-is_empty-clause-settles : goal.returns-then-is_empty-clause-settles
returns-then-is_empty-clause-settles g c =
    trims_all g.B.Branch.sense (g.B.Branch.sense.kin c.args.root.now) c.args.one (arms_of c.args.arms.items) (arms_of c.trim.new.arms.items) c.nothing.result c.trim.ensures
    (no_arms_of c.trim.new.arms.items (sym c.trim.new.arms.ok.0 ∙ is_zero c.trim.new.arms.len c.if-is_empty.ensures)) c.nothing.ensures

pub is_sure-requires : goal.is_sure-requires
is_sure-requires g c =
    let first = first_normal c.trim.new.arms.items c.index.result.now (some_arms c.trim.new.arms.items _ c.trim.new.arms.ok.0 (not_zero c.trim.new.arms.len c.if-is_empty.ensures)) (subst (λ (t : Arms _ _ _). NormalArms t) (sym c.trim.ensures) (trim_normal (arms_of c.args.arms.items) c.requires.normal)) in
    subst Normal (sym (c.deref.ensures ∙ ap (λ a. a.node.value) c.index.ensures)) first

pub returns-then-not-is_sure-clause-settles : goal.returns-then-not-is_sure-clause-settles
returns-then-not-is_sure-clause-settles g c =
    trims g.B.Branch.sense (g.B.Branch.sense.kin c.args.root.now) c.args.one (arms_of c.args.arms.items) (arms_of c.trim.new.arms.items) c.trim.ensures

pub returns-then-not-is_sure-clause-normal : goal.returns-then-not-is_sure-clause-normal
returns-then-not-is_sure-clause-normal g c =
    let full = subst (λ (t : Arms _ _ _). Full t) (sym c.trim.ensures) (trimmed_full (arms_of c.args.arms.items)) in
    let unsure = ap (λ a. sure a.node.value) (sym c.index.ensures) ∙ ap sure (sym c.deref.ensures) ∙ sym c.is_sure.ensures ∙ c.if-not-is_sure.true in
    (bare_not c.trim.new.arms.items c.index.result.now (some_arms c.trim.new.arms.items _ c.trim.new.arms.ok.0 (not_zero c.trim.new.arms.len c.if-is_empty.ensures)) full unsure, (subst (λ (t : Arms _ _ _). NormalArms t) (sym c.trim.ensures) (trim_normal (arms_of c.args.arms.items) c.requires.normal)))

pub pass-requires-clause-fit : goal.pass-requires-clause-fit
pass-requires-clause-fit g c κs within =
    first_fit g.B.Branch.sense (g.B.Branch.sense.kin c.args.root.now) c.args.one c.trim.new.arms.items c.remove-node.result (some_arms c.trim.new.arms.items _ c.trim.new.arms.ok.0 (not_zero c.trim.new.arms.len c.if-is_empty.ensures)) c.remove-node.ensures.value
    (subst (FitArms g.B.Branch.sense (g.B.Branch.sense.kin c.args.root.now)) (sym c.trim.ensures) (trim_fit g.B.Branch.sense (g.B.Branch.sense.kin c.args.root.now) (arms_of c.args.arms.items) c.requires.fit))

pub pass-requires-clause-normal : goal.pass-requires-clause-normal
pass-requires-clause-normal g c κs within =
    subst Normal (sym (ap (λ a. a.node.value) c.remove-node.ensures.value)) (first_normal c.trim.new.arms.items c.remove-node.result (some_arms c.trim.new.arms.items _ c.trim.new.arms.ok.0 (not_zero c.trim.new.arms.len c.if-is_empty.ensures)) (subst (λ (t : Arms _ _ _). NormalArms t) (sym c.trim.ensures) (trim_normal (arms_of c.args.arms.items) c.requires.normal)))

pub returns-clause-settles : goal.returns-clause-settles
returns-clause-settles g c =
    commits g.B.Branch.sense (g.B.Branch.sense.kin c.args.root.now) c.args.one (arms_of c.args.arms.items) c.trim.new.arms.items c.remove-node.result c.index.result.now c.pass.result.0 c.trim.ensures
    (some_arms c.trim.new.arms.items _ c.trim.new.arms.ok.0 (not_zero c.trim.new.arms.len c.if-is_empty.ensures)) c.remove-node.ensures.value
    (ap (λ a. sure a.node.value) (sym c.index.ensures) ∙ ap sure (sym c.deref.ensures) ∙ sym c.is_sure.ensures ∙ c.if-not-is_sure.false) c.pass.ensures.settles
