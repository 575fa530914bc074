use Rattle.std.proofs.Common.{◌≡◌, ℕ, true, sym, ap, ◌∙◌, subst, length, [], ◌∷◌, option_map, arith}
use Rattle.std.specs.List.{list_all}
use Rattle.std.proofs.lemmas.Result.{IfOk-weaker}
use Rattle.elan_terms.specs.Term.{is_ac, arms_under}
use Rattle.elan_bags.specs.Bags.{IsMinus}
use Rattle.elan_terms.specs.Ascending.{Ascends}
use Rattle.elan_terms.specs.Trees.{app_term}
use Rattle.elan_terms.specs.Weight.{pattern_weights}
use Rattle.elan_terms.proofs.WeightLemmas.{pattern_weight-app}
use Rattle.elan_arms.specs.Arms.{is_variable_node, heads_node}
use Rattle.elan_look.specs.Sights.{is_given, seeks}
use Rattle.elan_look.specs.Tells.{Tells, MakeEach, MakeNode}
use Rattle.elan_table.specs.Rows.{terms}
use Rattle.elan_look.specs.declared.low.Low.TheVariants.{Any}
use Rattle.elan_look.specs.Nodes.{settled_of, settled, loose, counted, AreLeft, TakesAway, FindsIn, Serve, AreShallow}
use Rattle.elan_look.proofs.SightLemmas.{given-int}
use Rattle.elan_look.proofs.CountLemmas as counts
use Rattle.elan_look.proofs.NodeLemmas.{rows-many}
use Rattle.elan_look.proofs.TellLemmas as tells
use Rattle.elan_look.proofs.NodeLemmas as node
use Rattle.elan_look.proofs.LeftLemmas as left
use Rattle.elan_look.proofs.ShareLemmas as shares
use Rattle.elan_look.proofs.SayLemmas as says
use Rattle.elan_look.proofs.walk.+walk.Goals as goal

pub look_at-returns-in-Var-clause-tells : goal.look_at-returns-in-Var-clause-tells
look_at-returns-in-Var-clause-tells g t c = tells.looks-var g.N.Name.shapes c.args.sight.now c.args.pattern.now c.in-Var.number c.in-Var.field-1 c.args.term.now.value c.at_variable.result c.in-Var.is c.at_variable.ensures.tells

pub look_at-returns-in-Int-clause-tells : goal.look_at-returns-in-Int-clause-tells
look_at-returns-in-Int-clause-tells g t c = tells.looks-test g.N.Name.shapes c.args.sight.now c.args.pattern.now c.in-Int.z c.args.term.now.value c.any_if.result c.is_integer.result c.any_if.ensures c.is_integer.ensures c.in-Int.is

pub look_at-returns-in-Int-top-clause-tells : goal.look_at-returns-in-Int-top-clause-tells
look_at-returns-in-Int-top-clause-tells g t c = tells.looks-app_int g.N.Name.shapes c.args.sight.now c.args.pattern.now c.in-App.op c.in-App.args c.args.term.now.value _ c.in-App.is (c.in-Int-top.ensures {u = tt})

pub look_at-returns-then-op-f-clause-tells : goal.look_at-returns-then-op-f-clause-tells
look_at-returns-then-op-f-clause-tells g t c = tells.looks-others g.N.Name.shapes c.args.sight.now c.args.pattern.now c.in-App.op c.in-App-top.f c.in-App.args c.args.term.now.value (terms c.in-App-top.rows.now) c.in-App.is (c.in-App-top.ensures {u = tt}) c.if-op-f.true

pub look_each-returns-in-empty-rows-clause-tells : goal.look_each-returns-in-empty-rows-clause-tells
look_each-returns-in-empty-rows-clause-tells g t c = tells.at_none g.N.Name.shapes c.args.sight.now c.args.patterns.now c.args.rows.now c.in-empty.len_below c.in-empty-rows.len_below

pub look_each-returns-in-len1-up-rows-clause-tells : goal.look_each-returns-in-len1-up-rows-clause-tells
look_each-returns-in-len1-up-rows-clause-tells g t c = tells.at_rows g.N.Name.shapes c.args.sight.now c.args.patterns.now c.args.rows.now c.in-empty.len_below c.in-len1-up-rows.len_at_least

pub look_each-returns-in-empty-rows-2-clause-tells : goal.look_each-returns-in-empty-rows-2-clause-tells
look_each-returns-in-empty-rows-2-clause-tells g t c = tells.at_patterns g.N.Name.shapes c.args.sight.now c.args.patterns.now c.args.rows.now c.in-len1-up.len_at_least c.in-empty-rows-2.len_below

pub look_each-returns-then-is_empty-clause-tells : goal.look_each-returns-then-is_empty-clause-tells
look_each-returns-then-is_empty-clause-tells g t c = tells.at_first g.N.Name.shapes c.args.sight.now c.args.patterns.now c.args.rows.now c.first-item.result c.row-item.result c.in_ok-low-in-len1-up-rows-2.low c.in-len1-up.len_at_least c.first-item.is c.in-len1-up-rows-2.len_at_least c.row-item.is
    (c.in_ok-low-in-len1-up-rows-2.ensures.tells) (sym c.if-is_empty.true ∙ c.is_empty.ensures)

pub look_each-returns-in_ok-later-in-len1-up-rows-2-clause-tells : goal.look_each-returns-in_ok-later-in-len1-up-rows-2-clause-tells
look_each-returns-in_ok-later-in-len1-up-rows-2-clause-tells g t c = tells.at_both g.N.Name.shapes c.args.sight.now c.args.patterns.now c.args.rows.now c.first-item.result c.row-item.result c.in_ok-low-in-len1-up-rows-2.low c.in_ok-later-in-len1-up-rows-2.later c.meet.result c.in-len1-up.len_at_least c.first-item.is c.in-len1-up-rows-2.len_at_least c.row-item.is
    (c.in_ok-low-in-len1-up-rows-2.ensures.tells) (c.in_ok-later-in-len1-up-rows-2.ensures.tells) c.meet.ensures

pub look_at-returns-else-is_ac-clause-tells : goal.look_at-returns-else-is_ac-clause-tells
look_at-returns-else-is_ac-clause-tells g t c = IfOk-weaker c.look_each.result _ _ (λ low h.
    tells.looks-plain g.N.Name.shapes c.args.sight.now c.args.pattern.now c.in-App.op c.in-App-top.f c.in-App.args c.args.term.now.value (terms c.in-App-top.rows.now) low c.in-App.is (c.in-App-top.ensures {u = tt}) c.if-op-f.false
    (sym (c.is_ac.ensures ∙ ap (λ s. is_ac s c.in-App.op) c.shapes.ensures) ∙ c.if-is_ac.false) (subst (λ ps. Tells g.N.Name.shapes c.args.sight.now (list_all (is_given c.args.sight.now) ps) (MakeEach g.N.Name.shapes ps (terms c.in-App-top.rows.now)) low) c.as_slice-else-is_ac.ensures h)) c.look_each.ensures.tells

pub find-rows-init : goal.find-rows-init
find-rows-init g t c = node.passes-all g.N.Name.shapes c.args.sight.now c.args.pattern.now (terms c.args.rows.now)

pub find-returns-then-not-is_empty : goal.find-returns-then-not-is_empty
find-returns-then-not-is_empty g t c = node.finds-some g.N.Name.shapes c.args.sight.now c.args.pattern.now (terms c.args.rows.now) c.row-item.result c.again.result c.in_ok-low.low c.requires
    (c.in_ok-low.ensures.tells) (sym c.is_empty.ensures ∙ c.if-not-is_empty.true) c.again.ensures

pub find-rows-preserved : goal.find-rows-preserved
find-rows-preserved g t c = node.passes-one g.N.Name.shapes c.args.sight.now c.args.pattern.now (terms c.args.rows.now) c.rows.left.now c.row-item.result c.in_ok-low.low c.rows.invariant c.in-len1-up.len_at_least c.row-item.is
    (c.in_ok-low.ensures.tells) (sym c.is_empty.ensures ∙ c.if-not-is_empty.false)

pub find-returns : goal.find-returns
find-returns g t c = node.finds-none g.N.Name.shapes c.args.sight.now c.args.pattern.now (terms c.args.rows.now) c.rows.left.now c.rows.invariant c.in_default.len_below

pub look_among-rows-preserved : goal.look_among-rows-preserved
look_among-rows-preserved g t c = record {
  covers = node.covers-one g.N.Name.shapes c.args.sight.now c.args.pattern.now (terms c.args.rows.now) c.rows.left.now c.row-item.result c.rows.low c.in_ok-one.one c.join-low.result c.rows.invariant.covers c.in-len1-up.len_at_least c.row-item.is
      (c.in_ok-one.ensures.tells) c.join-low.ensures;
  says = says.says-join (seeks c.args.sight.now c.args.pattern.now) c.rows.low c.in_ok-one.one c.join-low.result c.rows.invariant.says c.in_ok-one.ensures.says c.join-low.ensures;
}

pub look_among-returns-clause-tells : goal.look_among-returns-clause-tells
look_among-returns-clause-tells g t c = node.covers-all g.N.Name.shapes c.args.sight.now c.args.pattern.now (terms c.args.rows.now) c.rows.left.now c.rows.low c.rows.invariant.covers c.in_default.len_below

pub look_at-returns-then-is_ac-clause-tells : goal.look_at-returns-then-is_ac-clause-tells
look_at-returns-then-is_ac-clause-tells g t c = IfOk-weaker c.look_under.result _ _ (λ low h.
    left.looks-ac g.N.Name.shapes c.args.sight.now c.in-App.op (sym (c.is_ac.ensures ∙ ap (λ s. is_ac s c.in-App.op) c.shapes.ensures) ∙ c.if-is_ac.true) c.args.pattern.now c.in-App-top.f c.in-App.args c.args.term.now.value (terms c.in-App-top.rows.now) low c.in-App.is (c.in-App-top.ensures {u = tt}) c.if-op-f.false
    (subst (λ ps. Tells g.N.Name.shapes c.args.sight.now (list_all (is_given c.args.sight.now) ps) (MakeNode g.N.Name.shapes c.in-App.op ps (terms c.in-App-top.rows.now)) low) c.as_slice.ensures h)) c.look_under.ensures.tells

pub look_inside-returns-then-op-f-clause-tells : goal.look_inside-returns-then-op-f-clause-tells
look_inside-returns-then-op-f-clause-tells g t c = IfOk-weaker c.look_inside_all.result _ _ (λ low h.
    node.inside-nested g.N.Name.shapes c.args.sight.now c.args.op (terms c.args.rows.now) c.args.pattern.now c.in-App.f c.in-App.args c.as_slice.result.now low c.in-App.is c.if-op-f.true c.as_slice.ensures h) c.look_inside_all.ensures.tells

pub look_inside-returns-else-is_given-clause-tells : goal.look_inside-returns-else-is_given-clause-tells
look_inside-returns-else-is_given-clause-tells g t c = IfOk-weaker c.look_among.result _ _ (λ low h.
    node.inside-among g.N.Name.shapes c.args.sight.now c.args.op (terms c.args.rows.now) c.args.pattern.now c.in-App.f c.in-App.args low c.in-App.is c.if-op-f.false (sym c.is_given.ensures ∙ c.if-is_given.false) h) c.look_among.ensures.tells

pub look_inside_all-returns-then-is_empty-clause-tells : goal.look_inside_all-returns-then-is_empty-clause-tells
look_inside_all-returns-then-is_empty-clause-tells g t c = node.inside-first g.N.Name.shapes c.args.sight.now c.args.op (terms c.args.rows.now) c.args.patterns.now c.first-item.result c.in_ok-low-in-len1-up.low c.in-len1-up.len_at_least c.first-item.is
    (c.in_ok-low-in-len1-up.ensures.tells) (sym c.is_empty.ensures ∙ c.if-is_empty.true)

pub look_inside_all-returns-in_ok-later-in-len1-up-clause-tells : goal.look_inside_all-returns-in_ok-later-in-len1-up-clause-tells
look_inside_all-returns-in_ok-later-in-len1-up-clause-tells g t c = node.inside-both g.N.Name.shapes c.args.sight.now c.args.op (terms c.args.rows.now) c.args.patterns.now c.first-item.result c.in_ok-low-in-len1-up.low c.in_ok-later-in-len1-up.later c.meet.result c.in-len1-up.len_at_least c.first-item.is
    (c.in_ok-low-in-len1-up.ensures.tells) (c.in_ok-later-in-len1-up.ensures.tells) c.meet.ensures

pub look_left-returns-then-is_empty-clause-tells : goal.look_left-returns-then-is_empty-clause-tells
look_left-returns-then-is_empty-clause-tells g t c = shares.left-own g.N.Name.shapes c.args.sight.now c.args.op c.args.patterns.now (terms c.args.rows.now) c.in_ok-counts.counts c.in_ok-own.own
    (c.in_ok-counts.ensures {u = tt} ∙ ap (counted c.args.sight.now (loose c.args.sight.now c.args.op c.args.patterns.now)) c.none.ensures) c.requires.ac c.requires.shallow c.in_ok-own.ensures.tells (sym c.is_empty.ensures ∙ c.if-is_empty.true)

pub look_left-returns-in_ok-inside-clause-tells : goal.look_left-returns-in_ok-inside-clause-tells
look_left-returns-in_ok-inside-clause-tells g t c = shares.left-both g.N.Name.shapes c.args.sight.now c.args.op c.args.patterns.now (terms c.args.rows.now) c.in_ok-counts.counts (length c.args.rows.now) c.in_ok-own.own c.in_ok-inside.inside c.meet.result
    (c.in_ok-counts.ensures {u = tt} ∙ ap (counted c.args.sight.now (loose c.args.sight.now c.args.op c.args.patterns.now)) c.none.ensures) (rows-many c.args.rows.now) c.requires.ac c.requires.shallow
    (c.may_be_served.ensures.0 c.if-may_be_served.true) c.in_ok-own.ensures.tells c.in_ok-inside.ensures.tells c.meet.ensures

pub look_left-returns-in_ok-inside-clause-says : goal.look_left-returns-in_ok-inside-clause-says
look_left-returns-in_ok-inside-clause-says g t c = says.says-left c.args.sight.now c.args.op c.args.patterns.now c.in_ok-counts.counts c.in_ok-own.own c.in_ok-inside.inside c.meet.result
    (c.in_ok-counts.ensures {u = tt} ∙ ap (counted c.args.sight.now (loose c.args.sight.now c.args.op c.args.patterns.now)) c.none.ensures) c.in_ok-own.ensures.says c.in_ok-inside.ensures.says c.meet.ensures

pub look_left-returns-else-may_be_served-clause-tells : goal.look_left-returns-else-may_be_served-clause-tells
look_left-returns-else-may_be_served-clause-tells g t c = left.left-few g.N.Name.shapes c.args.sight.now c.args.op c.requires.ac c.args.patterns.now (terms c.args.rows.now) c.in_ok-counts.counts (length c.args.rows.now) c.may_be_served.result
    (c.in_ok-counts.ensures {u = tt} ∙ ap (counted c.args.sight.now (loose c.args.sight.now c.args.op c.args.patterns.now)) c.none.ensures) (rows-many c.args.rows.now) c.may_be_served.ensures c.if-may_be_served.false

pub look_under-returns-in-None-clause-tells : goal.look_under-returns-in-None-clause-tells
look_under-returns-in-None-clause-tells g t c = left.under-missing g.N.Name.shapes c.args.sight.now c.args.op c.requires.ac c.args.patterns.now (terms c.in_ok-all.all) (terms c.args.rows.now) (ap terms (c.in_ok-all.ensures {u = tt}))
    (subst (TakesAway g.N.Name.shapes c.args.sight.now c.args.op (settled c.args.sight.now c.args.op c.args.patterns.now) (terms c.in_ok-all.all)) c.in-None.is (c.in_ok-take_all.ensures {u = tt}))

pub look_under-returns-in-Some-clause-tells : goal.look_under-returns-in-Some-clause-tells
look_under-returns-in-Some-clause-tells g t c = IfOk-weaker c.look_left.result _ _ (λ low h.
    left.under-left g.N.Name.shapes c.args.sight.now c.args.op c.requires.ac c.args.patterns.now (terms c.in_ok-all.all) (terms c.args.rows.now) c.in-Some.left low (ap terms (c.in_ok-all.ensures {u = tt})) c.requires.ascend
    (subst (TakesAway g.N.Name.shapes c.args.sight.now c.args.op (settled c.args.sight.now c.args.op c.args.patterns.now) (terms c.in_ok-all.all)) c.in-Some.is (c.in_ok-take_all.ensures {u = tt}))
    (subst (λ ws. Tells g.N.Name.shapes c.args.sight.now (list_all (is_given c.args.sight.now) c.args.patterns.now) (Serve g.N.Name.shapes c.args.op (loose c.args.sight.now c.args.op c.args.patterns.now) (terms ws)) low) c.as_slice.ensures h)) c.look_left.ensures.tells

pub take_all-returns-in-None : goal.take_all-returns-in-None
take_all-returns-in-None g t c = node.all-missing g.N.Name.shapes c.args.sight.now c.args.op c.args.patterns.now c.first-item.result (terms c.args.rows) c.in-len1-up.len_at_least c.first-item.is
    (subst (TakesAway g.N.Name.shapes c.args.sight.now c.args.op (settled_of c.args.sight.now c.args.op c.first-item.result) (terms c.args.rows)) c.in-None.is (c.in_ok-take_pattern-in-len1-up.ensures {u = tt}))

pub take_all-returns-in-Some : goal.take_all-returns-in-Some
take_all-returns-in-Some g t c = IfOk-weaker c.take_all.result _ _ (λ found h.
    node.all-both g.N.Name.shapes c.args.sight.now c.args.op c.args.patterns.now c.first-item.result (terms c.args.rows) c.in-Some.left found c.in-len1-up.len_at_least c.first-item.is
    (subst (TakesAway g.N.Name.shapes c.args.sight.now c.args.op (settled_of c.args.sight.now c.args.op c.first-item.result) (terms c.args.rows)) c.in-Some.is (c.in_ok-take_pattern-in-len1-up.ensures {u = tt})) h) c.take_all.ensures

pub take_ground-returns-in-None : goal.take_ground-returns-in-None
take_ground-returns-in-None g t c = node.take-missing g.N.Name.shapes c.args.sight.now c.args.op c.args.pattern.now (terms c.args.rows.now) c.requires.whole c.requires.other
    (subst (FindsIn g.N.Name.shapes c.args.sight.now c.args.pattern.now (terms c.args.rows.now)) c.in-None.is (c.in_ok-find.ensures {u = tt}))

pub take_ground-returns-in-Some : goal.take_ground-returns-in-Some
take_ground-returns-in-Some g t c = IfOk-weaker c.take_one.result _ _ (λ found h.
    node.take-found g.N.Name.shapes c.args.sight.now c.args.op c.args.pattern.now (terms c.args.rows.now) c.in-Some.row found c.requires.ascend c.requires.whole c.requires.other
    (subst (FindsIn g.N.Name.shapes c.args.sight.now c.args.pattern.now (terms c.args.rows.now)) c.in-Some.is (c.in_ok-find.ensures {u = tt})) h) c.take_one.ensures

pub take_pattern-returns-in-None : goal.take_pattern-returns-in-None
take_pattern-returns-in-None g t c = node.take-unknown g.N.Name.shapes c.args.sight.now c.args.op c.args.pattern.now c.in-Var.number c.in-Var.field-1 c.args.rows c.in-Var.is (c.in-None.ensures {u = tt}) c.requires.ascend

pub take_pattern-returns-in-Some : goal.take_pattern-returns-in-Some
take_pattern-returns-in-Some g t c = IfOk-weaker c.take_arms.result _ _ (λ found h.
    node.take-value g.N.Name.shapes c.args.sight.now c.args.op c.args.pattern.now c.in-Var.number c.in-Var.field-1 (terms c.args.rows) c.in-Some.value found c.in-Var.is (c.in-Some.ensures {u = tt}) c.requires.ac c.known.ensures c.requires.ascend
    (subst (λ ws. IsMinus (terms ws) (arms_under c.args.op c.in-Some.value.value) (option_map terms found)) c.as_slice.ensures h)) c.take_arms.ensures

pub take_pattern-returns-in-Int : goal.take_pattern-returns-in-Int
take_pattern-returns-in-Int g t c = IfOk-weaker c.take_ground.result _ _ (λ found h.
    node.take-settled g.N.Name.shapes c.args.sight.now c.args.op c.args.pattern.now (terms c.args.rows) found (counts.apart_int c.args.sight.now c.args.op c.args.pattern.now _ c.in-Int.is) (sym (given-int c.args.sight.now c.args.pattern.now _ c.in-Int.is))
    (subst (λ ws. TakesAway g.N.Name.shapes c.args.sight.now c.args.op (c.args.pattern.now ∷ []) (terms ws) found) c.as_slice-in-Int.ensures h)) c.take_ground.ensures

pub take_pattern-returns-then-op-f : goal.take_pattern-returns-then-op-f
take_pattern-returns-then-op-f g t c = IfOk-weaker c.take_all.result _ _ (λ found h.
    node.take-nested g.N.Name.shapes c.args.sight.now c.args.op c.args.pattern.now c.in-App.f c.in-App.args c.as_slice-then-op-f.result.now (terms c.args.rows) found c.in-App.is c.if-op-f.true c.as_slice-then-op-f.ensures h) c.take_all.ensures

pub take_pattern-take_ground-requires : goal.take_pattern-take_ground-requires
take_pattern-take_ground-requires g t c κs within = (
  omega arith,
  (
    within.0,
    (
      within.1,
      (
        sym (given-int c.args.sight.now c.args.pattern.now _ c.in-Int.is),
        (
          ap is_variable_node c.in-Int.is,
          (
            ap (heads_node c.args.op) c.in-Int.is,
            subst (λ ws. Ascends (terms ws)) (sym c.as_slice-in-Int.ensures) c.requires.ascend,
          ),
        ),
      ),
    ),
  ),
)

pub look_at-look_under-requires : goal.look_at-look_under-requires
look_at-look_under-requires g t c κs within =
    let ac : is_ac g.N.Name.shapes c.in-App.op ≡ true = sym (c.is_ac.ensures ∙ ap (λ s. is_ac s c.in-App.op) c.shapes.ensures) ∙ c.if-is_ac.true in
    let same : app_term c.in-App-top.f (terms c.in-App-top.rows.now) ≡ app_term c.in-App.op (terms c.in-App-top.rows.now) = ap (λ (n : ℕ). app_term (record { 0 = n }) (terms c.in-App-top.rows.now)) (sym c.if-op-f.false) in
    let is : c.args.term.now.value ≡ app_term c.in-App.op (terms c.in-App-top.rows.now) = subst (λ u. c.args.term.now.value ≡ u) same (c.in-App-top.ensures {u = tt}) in (
      omega (arith, pattern_weight-app c.args.pattern.now c.in-App.op c.in-App.args c.in-App.is, ap pattern_weights c.as_slice.ensures),
      (
        within.0,
        (
          within.1,
          (
            ac,
            (
              node.arguments_ascend g.N.Name.shapes c.args.sight.now c.in-App.op c.args.term.now.value (terms c.in-App-top.rows.now) ac is c.known.ensures,
              shares.arguments_shallow g.N.Name.shapes c.in-App.op c.args.term.now.value (terms c.in-App-top.rows.now) is c.known.ensures,
            ),
          ),
        ),
      ),
    )

-- ---- where the sought variable is there, something is known

pub look_at-returns-in-Var-clause-says : goal.look_at-returns-in-Var-clause-says
look_at-returns-in-Var-clause-says g t c = says.says-var c.args.sight.now c.args.pattern.now c.in-Var.number c.in-Var.field-1 c.at_variable.result c.in-Var.is c.at_variable.ensures.says

pub look_at-returns-in-Int-clause-says : goal.look_at-returns-in-Int-clause-says
look_at-returns-in-Int-clause-says g t c = says.says-int c.args.sight.now c.args.pattern.now c.in-Int.z c.any_if.result c.in-Int.is

pub look_at-returns-then-is_ac-clause-says : goal.look_at-returns-then-is_ac-clause-says
look_at-returns-then-is_ac-clause-says g t c = IfOk-weaker c.look_under.result _ _ (λ low h.
    says.says-app c.args.sight.now c.args.pattern.now c.in-App.op c.in-App.args c.as_slice.result.now low c.in-App.is c.as_slice.ensures h) c.look_under.ensures.says

pub look_at-returns-else-is_ac-clause-says : goal.look_at-returns-else-is_ac-clause-says
look_at-returns-else-is_ac-clause-says g t c = IfOk-weaker c.look_each.result _ _ (λ low h.
    says.says-app c.args.sight.now c.args.pattern.now c.in-App.op c.in-App.args c.as_slice-else-is_ac.result.now low c.in-App.is c.as_slice-else-is_ac.ensures h) c.look_each.ensures.says

pub look_each-returns-in-empty-rows-clause-says : goal.look_each-returns-in-empty-rows-clause-says
look_each-returns-in-empty-rows-clause-says g t c = says.says-empty c.args.sight.now c.args.patterns.now Any c.in-empty.len_below

pub look_each-returns-in_ok-later-in-len1-up-rows-2-clause-says : goal.look_each-returns-in_ok-later-in-len1-up-rows-2-clause-says
look_each-returns-in_ok-later-in-len1-up-rows-2-clause-says g t c = says.says-each c.args.sight.now c.args.patterns.now c.first-item.result c.in_ok-low-in-len1-up-rows-2.low c.in_ok-later-in-len1-up-rows-2.later c.meet.result c.in-len1-up.len_at_least c.first-item.is
    c.in_ok-low-in-len1-up-rows-2.ensures.says c.in_ok-later-in-len1-up-rows-2.ensures.says c.meet.ensures

pub look_inside-returns-in-Var-clause-says : goal.look_inside-returns-in-Var-clause-says
look_inside-returns-in-Var-clause-says g t c = says.inside-var c.args.sight.now c.args.op c.args.pattern.now _ _ Any c.in-Var.is

pub look_inside-returns-in-Int-clause-says : goal.look_inside-returns-in-Int-clause-says
look_inside-returns-in-Int-clause-says g t c = says.inside-int c.args.sight.now c.args.op c.args.pattern.now _ Any c.in-Int.is

pub look_inside-returns-then-op-f-clause-says : goal.look_inside-returns-then-op-f-clause-says
look_inside-returns-then-op-f-clause-says g t c = IfOk-weaker c.look_inside_all.result _ _ (λ low h.
    says.inside-nested c.args.sight.now c.args.op c.args.pattern.now c.in-App.f c.in-App.args c.as_slice.result.now low c.in-App.is c.if-op-f.true c.as_slice.ensures h) c.look_inside_all.ensures.says

pub look_inside-returns-then-is_given-clause-says : goal.look_inside-returns-then-is_given-clause-says
look_inside-returns-then-is_given-clause-says g t c = says.inside-given c.args.sight.now c.args.op c.args.pattern.now c.in-App.f c.in-App.args Any c.in-App.is c.if-op-f.false (sym c.is_given.ensures ∙ c.if-is_given.true)

pub look_inside-returns-else-is_given-clause-says : goal.look_inside-returns-else-is_given-clause-says
look_inside-returns-else-is_given-clause-says g t c = IfOk-weaker c.look_among.result _ _ (λ low h.
    says.inside-says c.args.sight.now c.args.op c.args.pattern.now c.in-App.f c.in-App.args low c.in-App.is c.if-op-f.false (sym c.is_given.ensures ∙ c.if-is_given.false) h) c.look_among.ensures.says

pub look_inside_all-returns-in-empty-clause-says : goal.look_inside_all-returns-in-empty-clause-says
look_inside_all-returns-in-empty-clause-says g t c = says.inside-empty c.args.sight.now c.args.op c.args.patterns.now Any c.in-empty.len_below

pub look_inside_all-returns-in_ok-later-in-len1-up-clause-says : goal.look_inside_all-returns-in_ok-later-in-len1-up-clause-says
look_inside_all-returns-in_ok-later-in-len1-up-clause-says g t c = says.inside-both c.args.sight.now c.args.op c.args.patterns.now c.first-item.result c.in_ok-low-in-len1-up.low c.in_ok-later-in-len1-up.later c.meet.result c.in-len1-up.len_at_least c.first-item.is
    c.in_ok-low-in-len1-up.ensures.says c.in_ok-later-in-len1-up.ensures.says c.meet.ensures

pub look_under-look_left-requires : goal.look_under-look_left-requires
look_under-look_left-requires g t c κs within =
    let left : AreLeft g.N.Name.shapes c.args.sight.now c.args.op (settled c.args.sight.now c.args.op c.args.patterns.now) (terms c.in_ok-all.all) (terms c.in-Some.left)
    = subst (TakesAway g.N.Name.shapes c.args.sight.now c.args.op (settled c.args.sight.now c.args.op c.args.patterns.now) (terms c.in_ok-all.all)) c.in-Some.is (c.in_ok-take_all.ensures {u = tt}) in (
      omega arith,
      (
        within.0,
        (
          within.1,
          (
            c.requires.ac,
            (
              subst (λ ws. Ascends (terms ws)) (sym c.as_slice.ensures) left.ascend,
              subst (λ ws. AreShallow (terms ws)) (sym c.as_slice.ensures) (shares.left_shallow g.N.Name.shapes c.args.sight.now c.args.op (settled c.args.sight.now c.args.op c.args.patterns.now) (terms c.in_ok-all.all) (terms c.in-Some.left) left
                  (subst (λ ws. AreShallow (terms ws)) (sym (c.in_ok-all.ensures {u = tt})) c.requires.shallow)),
            ),
          ),
        ),
      ),
    )
