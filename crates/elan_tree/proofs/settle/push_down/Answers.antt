use Rattle.std.proofs.Common.{sym, ◌∙◌, subst}
use Rattle.elan_tree.specs.Tree.{trees, Trees}
use Rattle.elan_tree.specs.Moves.{done}
use Rattle.elan_tree.specs.Normal.{AllWait}
use Rattle.elan_tree.specs.Settling.{Fits, SettlesAll}
use Rattle.elan_tree.proofs.KidsLemmas.{filled, on_ok_more}
use Rattle.elan_tree.proofs.Cutting.{pushed_fit, pushed_wait, pushed_settles, not_one_long, pushed_length}
use Rattle.elan_tree.proofs.settle.push_down.Goals as goal

pub settle_shells-done-requires-clause-fit : goal.settle_shells-done-requires-clause-fit
settle_shells-done-requires-clause-fit g c κs within =
    let e = filled c.args.then c.args.kids.items c.in-Ok.all.items c.fill_all.new.shells.items c.len.result c.fill_all.ensures c.in-Ok.ensures (c.len.ensures ∙ c.args.kids.ok.0) in
    subst (Fits g.B.Branch.sense (g.B.Branch.sense.kin c.args.root.now)) (sym e)
    (pushed_fit g.B.Branch.sense (g.B.Branch.sense.kin c.args.root.now) c.args.then (trees c.args.kids.items) c.requires.fit.1 c.requires.fit.0)

pub settle_shells-done-requires-clause-waits : goal.settle_shells-done-requires-clause-waits
settle_shells-done-requires-clause-waits g c κs within =
    let e = filled c.args.then c.args.kids.items c.in-Ok.all.items c.fill_all.new.shells.items c.len.result c.fill_all.ensures c.in-Ok.ensures (c.len.ensures ∙ c.args.kids.ok.0) in
    subst (λ (t : Trees _ _ _). AllWait t) (sym e) (pushed_wait c.args.then (trees c.args.kids.items) c.requires.normal.1)

pub returns-in-Ok-clause-settles : goal.returns-in-Ok-clause-settles
returns-in-Ok-clause-settles g c =
    let e = filled c.args.then c.args.kids.items c.in-Ok.all.items c.fill_all.new.shells.items c.len.result c.fill_all.ensures c.in-Ok.ensures (c.len.ensures ∙ c.args.kids.ok.0) in
    pushed_settles g.B.Branch.sense (g.B.Branch.sense.kin c.args.root.now) c.args.then (trees c.args.kids.items) (trees c.settle_shells-done.new.kids.items)
    (subst (λ (t : Trees _ _ _). SettlesAll g.B.Branch.sense (g.B.Branch.sense.kin c.args.root.now) t (trees c.settle_shells-done.new.kids.items)) e c.settle_shells-done.ensures.settles)

pub returns-in-Ok-clause-normal : goal.returns-in-Ok-clause-normal
returns-in-Ok-clause-normal g c =
    let e = filled c.args.then c.args.kids.items c.in-Ok.all.items c.fill_all.new.shells.items c.len.result c.fill_all.ensures c.in-Ok.ensures (c.len.ensures ∙ c.args.kids.ok.0) in
    let n = pushed_length c.args.then c.settle_shells-done.new.kids.items c.fill_all.new.shells.items c.args.kids.items c.settle_shells-done.ensures.len e in
    on_ok_more c.settle_shells-done.result (λ f. (not_one_long c.settle_shells-done.new.kids.items c.args.kids.items n c.requires.normal.0, f)) c.settle_shells-done.ensures.normal

pub returns-in-Err-clause-settles : goal.returns-in-Err-clause-settles
returns-in-Err-clause-settles g c = done
