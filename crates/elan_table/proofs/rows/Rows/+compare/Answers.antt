use Rattle.std.proofs.Common.{◌≡◌, sym, ap, ◌∙◌, rules, int_cmp, to_z, of_z, w64, SFits}
use Rattle.std.proofs.lemmas.Int.{to_z-of_z}
use Rattle.elan_shared.proofs.OrderLemmas.{order-ints, order-int-before, order-int-behind, order-operators, order-lengths, order-arguments}
use Rattle.elan_table.proofs.Falls.{twice_falls, equal_terms, lengths}
use Rattle.elan_table.proofs.rows.Rows.+compare.Goals as goal

pub compare-returns-then-number : goal.compare-returns-then-number
compare-returns-then-number g t c = equal_terms _ _ c.agrees.ensures

pub compare_nodes-compare_all-requires : goal.compare_nodes-compare_all-requires
compare_nodes-compare_all-requires g t c κs within = (twice_falls _ _ _ _ c.decreases (sym c.row.ensures ∙ c.in-App-App.ensures {u = tt}), search rules)

pub compare_nodes-returns-in-Int-Int : goal.compare_nodes-returns-in-Int-Int
compare_nodes-returns-in-Int-Int g t c =
    let fits_x : SFits w64 c.in-Int-Int.x = search rules in
    let fits_y : SFits w64 c.in-Int-Int.y = search rules in
    c.cmp.ensures ∙ ap (λ z. int_cmp z (to_z w64 (of_z w64 c.in-Int-Int.y))) (to_z-of_z w64 c.in-Int-Int.x fits_x)
    ∙ ap (int_cmp c.in-Int-Int.x) (to_z-of_z w64 c.in-Int-Int.y fits_y)
    ∙ sym (order-ints _ _ _ _ (sym c.row.ensures ∙ c.in-Int-Int.ensures {u = tt}) (sym c.row-2.ensures ∙ c.in-Int-Int.ensures' {u = tt}))

pub compare_nodes-returns-in-Int-App : goal.compare_nodes-returns-in-Int-App
compare_nodes-returns-in-Int-App g t c = sym (order-int-before _ _ _ _ _ (sym c.row.ensures ∙ c.in-Int-App.ensures {u = tt}) (sym c.row-2.ensures ∙ c.in-Int-App.ensures' {u = tt}))

pub compare_nodes-returns-in-App-Int : goal.compare_nodes-returns-in-App-Int
compare_nodes-returns-in-App-Int g t c = sym (order-int-behind _ _ _ _ _ (sym c.row.ensures ∙ c.in-App-Int.ensures {u = tt}) (sym c.row-2.ensures ∙ c.in-App-Int.ensures' {u = tt}))

pub compare_nodes-returns-in-Equal-cmp : goal.compare_nodes-returns-in-Equal-cmp
compare_nodes-returns-in-Equal-cmp g t c =
    order-arguments _ _ _ _ _ _ (sym c.row.ensures ∙ c.in-App-App.ensures {u = tt}) (sym c.row-2.ensures ∙ c.in-App-App.ensures' {u = tt}) _ (sym (c.in-Equal.ensures {u = tt}))
    (sym (c.in-Equal-cmp.ensures {u = tt} ∙ lengths c.in-App-App.xs.now c.in-App-App.ys.now)) c.compare_all.ensures

pub compare_nodes-returns-in_default-cmp : goal.compare_nodes-returns-in_default-cmp
compare_nodes-returns-in_default-cmp g t c =
    order-lengths _ _ _ _ _ _ (sym c.row.ensures ∙ c.in-App-App.ensures {u = tt}) (sym c.row-2.ensures ∙ c.in-App-App.ensures' {u = tt}) _ (sym (c.in-Equal.ensures {u = tt}))
    (c.cmp-in-Equal.ensures ∙ lengths c.in-App-App.xs.now c.in-App-App.ys.now) c.in_default-cmp.not-Equal

pub compare_nodes-returns-in_default : goal.compare_nodes-returns-in_default
compare_nodes-returns-in_default g t c =
    order-operators _ _ _ _ _ _ (sym c.row.ensures ∙ c.in-App-App.ensures {u = tt}) (sym c.row-2.ensures ∙ c.in-App-App.ensures' {u = tt}) _ c.cmp-in-App-App.ensures c.in_default.not-Equal
