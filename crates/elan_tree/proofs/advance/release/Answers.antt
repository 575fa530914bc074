use Rattle.std.proofs.Common.{◌≡◌, ◌<◌, ◌∷◌, ◌++◌, [], sym, ◌∙◌, ap, subst, arith, length, length-append}
use Rattle.elan_tree.specs.Tree.{Tree}
use Rattle.elan_tree.specs.Normal.{Normal}
use Rattle.elan_tree.specs.Fronts.{NotFirst}
use Rattle.elan_tree.specs.Moves.{done}
use Rattle.elan_tree.specs.Marks.{Place, plain}
use Rattle.elan_tree.proofs.Over.{normal_over, not_first_over}
use Rattle.elan_tree.proofs.Releasing.{gives_normal, released_more, settled_open, settled_full, stopped}
use Rattle.elan_tree.proofs.advance.release.Goals as goal

pub loop-released-init : goal.loop-released-init
loop-released-init g c = (c.requires.normal, c.requires.within, done)

pub loop-released-preserved : goal.loop-released-preserved
loop-released-preserved g c =
    let items = c.loop-released.released.items in
    let room : length items < c.args.limit = omega (arith, c.loop-released-test.true, c.len.ensures, c.loop-released.released.ok.0) in
    let new : c.push_within.new.out.items ≡ items ++ c.in-Some.item ∷ [] = c.push_within.ensures.items ∙ ap (λ xs. xs ++ c.in-Some.item ∷ []) c.in_ok-reserve.ensures.items in
    let long = ap length new in (
      gives_normal c.loop-released.node c.take_first.new.node c.in-Some.item c.loop-released.invariant.0 c.in-Some.ensures,
      omega (arith, long, length-append items (c.in-Some.item ∷ []), room),
      released_more g.B.Branch.sense (g.B.Branch.sense.kin c.args.root.now) c.args.limit _ items c.push_within.new.out.items c.loop-released.node c.take_first.new.node c.take_first.new.node c.in-Some.item
          c.loop-released.invariant.2 room c.in-Some.ensures new,
    )

pub returns-in-None-clause-settled : goal.returns-in-None-clause-settled
returns-in-None-clause-settled g c u step =
    let items = c.loop-released.released.items in
    let same = ap length c.in_ok-reserve.ensures.items in
    let normal = subst (λ (t : Tree _ _ _). Normal t) (sym c.in-None.ensures.0) c.loop-released.invariant.0 in
    let not_first = subst (λ (t : Tree _ _ _). NotFirst t) (sym c.in-None.ensures.0) c.in-None.ensures.1 in
    settled_open c.args.limit _ u (normal_over (λ (p : Place _). p.spot) c.take_first.new.node normal) (not_first_over (λ (p : Place _). p.spot) c.take_first.new.node not_first)
    (omega (arith, same, c.loop-released-test.true, c.len.ensures, c.loop-released.released.ok.0)) step

pub returns-clause-steps : goal.returns-clause-steps
returns-clause-steps g c =
    let full : length c.loop-released.released.items ≡ c.args.limit = omega (arith, c.loop-released-test.false, c.len.ensures, c.loop-released.released.ok.0, c.loop-released.invariant.1) in
    stopped g.B.Branch.sense (g.B.Branch.sense.kin c.args.root.now) c.args.limit _ c.loop-released.released.items c.loop-released.node c.nothing.result c.loop-released.invariant.2 full c.nothing.ensures

pub returns-clause-settled : goal.returns-clause-settled
returns-clause-settled g c u step =
    settled_full c.args.limit _ u (ap (λ (t : Tree _ _ _). plain t) c.nothing.ensures) (omega (arith, c.loop-released-test.false, c.len.ensures, c.loop-released.released.ok.0)) step
