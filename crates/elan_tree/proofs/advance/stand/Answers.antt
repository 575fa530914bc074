use Rattle.std.proofs.Common.{◌≡◌, ◌∙◌, refl, true}
use Rattle.elan_tree.specs.Places.{has, put}
use Rattle.elan_tree.specs.Marks.{at_place}
use Rattle.elan_tree.proofs.Finding.{none_has, some_then_has, has_unmarked, must_stand}
use Rattle.elan_tree.proofs.advance.stand.Goals as goal

pub returns-then-not-is_there-clause-stands : goal.returns-then-not-is_there-clause-stands
returns-then-not-is_there-clause-stands g c = (none_has (at_place c.args.spot.now.index) c.args.node.now c.if-not-is_there.ensures, refl)

pub returns-clause-stands : goal.returns-clause-stands
returns-clause-stands g c =
    let here = at_place c.args.spot.now.index in
    let there : has here c.args.node.now ≡ true = some_then_has here c.args.node.now _ c.if-not-is_there.ensures in
    record {
      open_before = there;
      branch = c.if-not-is_there.ensures;
      planted = c.in_ok-planted.planted;
      of_growth = c.in_ok-planted.ensures;
      stands =
          must_stand c.place-unused.result _ _ _ _ c.place-unused.ensures
          ((λ i. has (at_place (c.number.ensures i)) (c.unmark.ensures i)) ∙ has_unmarked c.args.spot.now.index c.args.node.now ∙ there)
          ∙ (λ i. put (at_place (c.number.ensures i)) c.in_ok-planted.planted (c.unmark.ensures i));
    }
