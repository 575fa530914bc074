use Rattle.std.proofs.Common.{◌≡◌, ◌+◌, ◌<◌, [], sym, ◌∙◌, ap, arith, length, drop, slice_set, get_or}
use Rattle.std.proofs.Math.ListN.{drop_of_length-le}
use Rattle.elan_tree.specs.Tree.{trees}
use Rattle.elan_tree.specs.Moves.{join}
use Rattle.elan_tree.specs.Kids.{flat, widths}
use Rattle.elan_tree.proofs.KidsLemmas.{join-none, next_kid, flat_next}
use Rattle.elan_tree.proofs.kids.flatten.Goals as goal

pub loop-i-preserved : goal.loop-i-preserved
loop-i-preserved g c =
    let items = c.loop-i.kids.items in
    let room : c.loop-i.i < length items = omega (arith, c.loop-i-test.true, c.loop-i.invariant.0, c.loop-i.kids.ok.0) in
    let value : c.replace-kid.result ≡ get_or items c.loop-i.i c.replace-kid.result =
    c.replace-kid.ensures.value ∙ c.index_mut.ensures.value ∙ ap (λ d. get_or items c.loop-i.i d) (sym c.replace-kid.ensures.value) in
    let next = next_kid items c.loop-i.i c.replace-kid.result c.replace-kid.new.dest room value in
    let widths_are = ap (λ l. widths (trees l)) next in (
      c.loop-i.invariant.0,
      ap (λ t. join t (flat (trees (drop (c.loop-i.i + 1) (slice_set items c.loop-i.i c.replace-kid.new.dest))))) c.splice.ensures.items
          ∙ flat_next (trees c.loop-i.out.items) (drop c.loop-i.i items) _ c.replace-kid.result _ next c.loop-i.invariant.1,
      omega (arith, c.splice.ensures.len, c.splice.ensures.capacity, c.loop-i.invariant.2, widths_are),
    )

pub returns : goal.returns
returns g c =
    let gone : drop c.loop-i.i c.loop-i.kids.items ≡ [] = drop_of_length-le c.loop-i.kids.items (omega (arith, c.loop-i-test.false, c.loop-i.invariant.0, c.loop-i.kids.ok.0)) in
    sym (join-none (trees c.loop-i.out.items)) ∙ ap (λ l. join (trees c.loop-i.out.items) (flat (trees l))) (sym gone) ∙ c.loop-i.invariant.1
