use Rattle.std.proofs.Common.{sym, ap, ◌∙◌, rules, int_cmp, to_z, of_z, w64, SFits}
use Rattle.std.proofs.lemmas.Int.{to_z-of_z}
use Rattle.elan_shared.proofs.OrderLemmas.{order-ints, order-int-before, order-int-behind, order-operators, order-lengths, order-arguments}
use Rattle.elan_shared.proofs.NodeLemmas.{args_fall}
use Rattle.elan_shared.proofs.order.+compare.Goals as goal

pub compare-returns-in-Equal-cmp : goal.compare-returns-in-Equal-cmp
compare-returns-in-Equal-cmp t c =
    order-arguments _ _ _ _ _ _ (c.in-App-App.ensures {u = tt}) (c.in-App-App.ensures' {u = tt}) _ (sym (c.in-Equal.ensures {u = tt}))
    (sym (c.in-Equal-cmp.ensures {u = tt})) c.compare_all.ensures

pub compare-returns-in_default-cmp : goal.compare-returns-in_default-cmp
compare-returns-in_default-cmp t c =
    order-lengths _ _ _ _ _ _ (c.in-App-App.ensures {u = tt}) (c.in-App-App.ensures' {u = tt}) _ (sym (c.in-Equal.ensures {u = tt}))
    c.cmp-in-Equal.ensures c.in_default-cmp.not-Equal

pub compare-returns-in_default : goal.compare-returns-in_default
compare-returns-in_default t c =
    order-operators _ _ _ _ _ _ (c.in-App-App.ensures {u = tt}) (c.in-App-App.ensures' {u = tt}) _ c.cmp-in-App-App.ensures c.in_default.not-Equal

pub compare-compare_all-requires : goal.compare-compare_all-requires
compare-compare_all-requires t c = (args_fall _ _ _ _ c.decreases (c.in-App-App.ensures {u = tt}), tt)

pub compare-returns-in-Int-Int : goal.compare-returns-in-Int-Int
compare-returns-in-Int-Int t c =
    let fits_x : SFits w64 c.in-Int-Int.x = search rules in
    let fits_y : SFits w64 c.in-Int-Int.y = search rules in
    c.cmp.ensures ∙ ap (λ z. int_cmp z (to_z w64 (of_z w64 c.in-Int-Int.y))) (to_z-of_z w64 c.in-Int-Int.x fits_x)
    ∙ ap (int_cmp c.in-Int-Int.x) (to_z-of_z w64 c.in-Int-Int.y fits_y)
    ∙ sym (order-ints _ _ _ _ (c.in-Int-Int.ensures {u = tt}) (c.in-Int-Int.ensures' {u = tt}))

pub compare-returns-in-Int-App : goal.compare-returns-in-Int-App
compare-returns-in-Int-App t c = sym (order-int-before _ _ _ _ _ (c.in-Int-App.ensures {u = tt}) (c.in-Int-App.ensures' {u = tt}))

pub compare-returns-in-App-Int : goal.compare-returns-in-App-Int
compare-returns-in-App-Int t c = sym (order-int-behind _ _ _ _ _ (c.in-App-Int.ensures {u = tt}) (c.in-App-Int.ensures' {u = tt}))
