use Rattle.std.proofs.Common.{rules, ◌+◌, ◌<◌, sym, ◌∙◌, ap, arith, length, set, take, drop}
use Rattle.std.proofs.lemmas.List.{set-get_or}
use Rattle.elan_tree.specs.Tree.{trees, weight}
use Rattle.elan_tree.specs.Shape.{arms_of}
use Rattle.elan_tree.specs.Places.{has, any_has, arm_has, put, put_all, put_arms}
use Rattle.elan_tree.proofs.Weights.{weight_left, arm_left}
use Rattle.elan_tree.proofs.Putting.{put_at, none_next, put_arm_at, no_arm_next}
use Rattle.elan_tree.specs.Marks.{at_place}
use Rattle.elan_tree.proofs.replace.+place.Goals as goal

pub place_all-place-requires : goal.place_all-place-requires
place_all-place-requires g t c κs within =
    let lt : c.loop-i.i < length c.loop-i.kids.items = omega (arith, c.loop-i-test.true, c.loop-i.invariant.0, c.loop-i.kids.ok.0) in
    let light = weight_left c.loop-i.kids.items c.args.kids.now.items c.loop-i.i c.index_mut.result.now lt c.index_mut.ensures.value (ap (drop c.loop-i.i) c.loop-i.invariant.1) in
    search rules

pub place_all-returns-in-None : goal.place_all-returns-in-None
place_all-returns-in-None g t c =
    let lt : c.loop-i.i < length c.loop-i.kids.items = omega (arith, c.loop-i-test.true, c.loop-i.invariant.0, c.loop-i.kids.ok.0) in
    let e = c.index_mut.ensures.value in
    let r = put_at (at_place c.args.number) c.args.new c.loop-i.kids.items c.loop-i.i c.index_mut.result.now c.place.new.node lt c.loop-i.invariant.3 (ap (has (at_place c.args.number)) (sym e) ∙ c.in-None.ensures.0)
    (c.in-None.ensures.1 ∙ ap (λ x. put (at_place c.args.number) x c.index_mut.result.now) c.loop-i.invariant.2 ∙ ap (put (at_place c.args.number) c.args.new) e) in
    (ap (λ l. any_has (at_place c.args.number) (trees l)) (sym c.loop-i.invariant.1) ∙ r.0, r.1 ∙ ap (λ l. put_all (at_place c.args.number) c.args.new (trees l)) c.loop-i.invariant.1)

pub place_all-loop-i-preserved : goal.place_all-loop-i-preserved
place_all-loop-i-preserved g t c =
    let lt : c.loop-i.i < length c.loop-i.kids.items = omega (arith, c.loop-i-test.true, c.loop-i.invariant.0, c.loop-i.kids.ok.0) in
    let e = c.index_mut.ensures.value in
    let same = ap (set c.loop-i.kids.items c.loop-i.i) (c.in-Some.ensures.2 ∙ e) ∙ set-get_or c.loop-i.kids.items c.loop-i.i c.index_mut.result.now in (
      c.loop-i.invariant.0,
      same ∙ c.loop-i.invariant.1,
      c.in-Some.ensures.0 ∙ c.loop-i.invariant.2,
      ap (λ l. any_has (at_place c.args.number) (trees (take (c.loop-i.i + 1) l))) same
          ∙ none_next (at_place c.args.number) c.args.new c.loop-i.kids.items c.loop-i.i c.index_mut.result.now lt c.loop-i.invariant.3 (ap (has (at_place c.args.number)) (sym e) ∙ c.in-Some.ensures.1),
    )

pub place_arms-place-requires : goal.place_arms-place-requires
place_arms-place-requires g t c κs within =
    let lt : c.loop-i.i < length c.loop-i.arms.items = omega (arith, c.loop-i-test.true, c.loop-i.invariant.0, c.loop-i.arms.ok.0) in
    let light = arm_left c.loop-i.arms.items c.args.arms.now.items c.loop-i.i c.index_mut.result.now lt c.index_mut.ensures.value (ap (drop c.loop-i.i) c.loop-i.invariant.1) in
    let same = ap weight c.deref_mut.ensures.value in
    search rules

pub place_arms-returns-in-None : goal.place_arms-returns-in-None
place_arms-returns-in-None g t c =
    let lt : c.loop-i.i < length c.loop-i.arms.items = omega (arith, c.loop-i-test.true, c.loop-i.invariant.0, c.loop-i.arms.ok.0) in
    let e = c.index_mut.ensures.value in
    let f = c.deref_mut.ensures.value ∙ ap (λ a. a.node.value) e in
    let r = put_arm_at (at_place c.args.number) c.args.new c.loop-i.arms.items c.loop-i.i c.index_mut.result.now _ lt c.loop-i.invariant.3 (ap (has (at_place c.args.number)) (sym f) ∙ c.in-None.ensures.0)
    (c.in-None.ensures.1 ∙ ap (λ x. put (at_place c.args.number) x c.deref_mut.result.now) c.loop-i.invariant.2 ∙ ap (put (at_place c.args.number) c.args.new) f) (ap (λ a. a.then) e) in
    (ap (λ l. arm_has (at_place c.args.number) (arms_of l)) (sym c.loop-i.invariant.1) ∙ r.0, r.1 ∙ ap (λ l. put_arms (at_place c.args.number) c.args.new (arms_of l)) c.loop-i.invariant.1)

pub place_arms-loop-i-preserved : goal.place_arms-loop-i-preserved
place_arms-loop-i-preserved g t c =
    let lt : c.loop-i.i < length c.loop-i.arms.items = omega (arith, c.loop-i-test.true, c.loop-i.invariant.0, c.loop-i.arms.ok.0) in
    let e = c.index_mut.ensures.value in
    let f = c.deref_mut.ensures.value ∙ ap (λ a. a.node.value) e in
    let back = ap (λ v. record { node = record (c.index_mut.result.now.node) { value = v }; then = c.index_mut.result.now.then }) (c.in-Some.ensures.2 ∙ c.deref_mut.ensures.value) in
    let same = ap (set c.loop-i.arms.items c.loop-i.i) (back ∙ e) ∙ set-get_or c.loop-i.arms.items c.loop-i.i c.index_mut.result.now in (
      c.loop-i.invariant.0,
      same ∙ c.loop-i.invariant.1,
      c.in-Some.ensures.0 ∙ c.loop-i.invariant.2,
      ap (λ l. arm_has (at_place c.args.number) (arms_of (take (c.loop-i.i + 1) l))) same
          ∙ no_arm_next (at_place c.args.number) c.args.new c.loop-i.arms.items c.loop-i.i c.index_mut.result.now lt c.loop-i.invariant.3 (ap (has (at_place c.args.number)) (sym f) ∙ c.in-Some.ensures.1),
    )
