use Rattle.std.proofs.Common.{◌≡◌, ◌<◌, ◌∷◌, [], sym, ◌∙◌, ap, arith, length, slice_set, get_or, length-append}
use Rattle.std.proofs.lemmas.List.{nil_from_length, length-set}
use Rattle.elan_tree.specs.Kids.{with_children, with_child}
use Rattle.elan_tree.proofs.KidsLemmas.{with_children-none, with_children-last, none_case}
use Rattle.elan_tree.proofs.kids.fill_all.Goals as goal

pub loop-kid-preserved : goal.loop-kid-preserved
loop-kid-preserved g c =
    let ts = c.loop-kid.shells.items in
    let us = c.pop.new.self.items in
    let u = c.in-Some.kid in
    let d = c.index_mut.result.now in
    let many = ap length c.in-Some.ensures.items ∙ length-append us (u ∷ []) in
    let at : c.len.result ≡ length us = c.len.ensures ∙ c.pop.new.self.ok.0 in
    let long : length us < length ts = omega (arith, many, c.loop-kid.invariant.1) in
    let last = with_children-last ts us u d long in (
      ap (λ x. with_children (slice_set ts c.len.result x) us) (c.fill.ensures ∙ ap (λ x. with_child x u) c.index_mut.ensures.value)
          ∙ ap (λ n. with_children (slice_set ts n (with_child (get_or ts n d) u)) us) at
          ∙ last ∙ ap (with_children ts) (sym c.in-Some.ensures.items) ∙ c.loop-kid.invariant.0,
      omega (arith, length-set ts c.len.result c.fill.new.shell, long),
    )

pub returns : goal.returns
returns g c =
    let gone = none_case c.pop.result _ _ c.pop.ensures.cases c.in_default.not-Some in
    let none : c.loop-kid.kids.items ≡ [] = nil_from_length c.loop-kid.kids.items (sym c.loop-kid.kids.ok.0 ∙ gone.0) in
    sym (with_children-none c.loop-kid.shells.items) ∙ ap (with_children c.loop-kid.shells.items) (sym none) ∙ c.loop-kid.invariant.0
