use Rattle.std.proofs.Common.{◌<◌, sym, ◌∙◌, arith, length, refl}
use Rattle.std.proofs.lemmas.List.{length-set}
use Rattle.elan_tree.specs.Tree.{trees}
use Rattle.elan_tree.specs.Moves.{done}
use Rattle.elan_tree.proofs.SettlesAll.{settle_then, rest_fits, rest_waits, first_flats}
use Rattle.elan_tree.proofs.settle.settle_shells.Goals as goal

pub loop-i-init : goal.loop-i-init
loop-i-init g c = (refl, sym c.len-i-end.ensures, done, c.requires.fit, c.requires.waits, tt)

pub returns-in_err-settle_shell-clause-settles : goal.returns-in_err-settle_shell-clause-settles
returns-in_err-settle_shell-clause-settles g c =
    let lt : c.loop-i.i < length c.loop-i.kids.items = omega (arith, c.loop-i-test.true, c.loop-i.invariant.1, c.loop-i.kids.ok.0) in
    settle_then g.B.Branch.sense (g.B.Branch.sense.kin c.args.root.now) (trees c.args.kids.now.items) c.loop-i.kids.items c.loop-i.i
    c.index_mut.result.now c.settle_shell.new.node c.loop-i.invariant.2 lt c.index_mut.ensures.value c.settle_shell.ensures.settles

pub loop-i-preserved : goal.loop-i-preserved
loop-i-preserved g c =
    let items = c.loop-i.kids.items in
    let new = c.settle_shell.new.node in
    let h = c.in_ok-settle_shell.ensures in
    let lt : c.loop-i.i < length items = omega (arith, c.loop-i-test.true, c.loop-i.invariant.1, c.loop-i.kids.ok.0) in (
      length-set items c.loop-i.i new ∙ c.loop-i.invariant.0,
      c.loop-i.invariant.1,
      settle_then g.B.Branch.sense (g.B.Branch.sense.kin c.args.root.now) (trees c.args.kids.now.items) items c.loop-i.i
          c.index_mut.result.now new c.loop-i.invariant.2 lt c.index_mut.ensures.value c.settle_shell.ensures.settles,
      rest_fits g.B.Branch.sense (g.B.Branch.sense.kin c.args.root.now) items c.loop-i.i c.index_mut.result.now new lt c.loop-i.invariant.3,
      rest_waits items c.loop-i.i c.index_mut.result.now new lt c.loop-i.invariant.4,
      first_flats items c.loop-i.i new lt c.loop-i.invariant.5 h.normal.0 h.normal.1,
    )
