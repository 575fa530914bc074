use Rattle.std.proofs.Common.{sym, ap, ◌∙◌, rules, to_z, of_z, w64, SFits}
use Rattle.std.specs.Ordering.{int_eq}
use Rattle.std.proofs.lemmas.Int.{to_z-of_z}
use Rattle.elan_entries.proofs.NodeLemmas.{args_fall, same-vars, same-ints, same-var_int, same-int_var, same-var_app, same-int_app, same-app_var, same-app_int, same-apps_yes, same-apps_no}
use Rattle.elan_entries.proofs.shared.+same.Goals as goal

pub same-returns-in-Var-Var : goal.same-returns-in-Var-Var
same-returns-in-Var-Var t c =
    c.is_same_var.ensures ∙ sym (same-vars _ _ _ _ _ _ (c.in-Var-Var.ensures {u = tt}) (c.in-Var-Var.ensures' {u = tt}))

pub same-returns-in-Int-Int : goal.same-returns-in-Int-Int
same-returns-in-Int-Int t c =
    let fits_x : SFits w64 c.in-Int-Int.x = search rules in
    let fits_y : SFits w64 c.in-Int-Int.y = search rules in
    c.is_same_int.ensures ∙ ap (λ z. int_eq z (to_z w64 (of_z w64 c.in-Int-Int.y))) (to_z-of_z w64 c.in-Int-Int.x fits_x)
    ∙ ap (int_eq c.in-Int-Int.x) (to_z-of_z w64 c.in-Int-Int.y fits_y)
    ∙ sym (same-ints _ _ _ _ (c.in-Int-Int.ensures {u = tt}) (c.in-Int-Int.ensures' {u = tt}))

pub same-returns-then-f-g : goal.same-returns-then-f-g
same-returns-then-f-g t c =
    c.same_all.ensures ∙ sym (same-apps_yes _ _ _ _ _ _ (c.in-App-App.ensures {u = tt}) (c.in-App-App.ensures' {u = tt}) c.if-f-g.true)

pub same-returns-else-f-g : goal.same-returns-else-f-g
same-returns-else-f-g t c =
    sym (same-apps_no _ _ _ _ _ _ (c.in-App-App.ensures {u = tt}) (c.in-App-App.ensures' {u = tt}) c.if-f-g.false)

pub same-same_all-requires : goal.same-same_all-requires
same-same_all-requires t c = (args_fall _ _ _ _ c.decreases (c.in-App-App.ensures {u = tt}), tt)

pub same-returns-in-Var-Int : goal.same-returns-in-Var-Int
same-returns-in-Var-Int t c = sym (same-var_int _ _ _ _ _ (c.in-Var-Int.ensures {u = tt}) (c.in-Var-Int.ensures' {u = tt}))

pub same-returns-in-Var-App : goal.same-returns-in-Var-App
same-returns-in-Var-App t c = sym (same-var_app _ _ _ _ _ _ (c.in-Var-App.ensures {u = tt}) (c.in-Var-App.ensures' {u = tt}))

pub same-returns-in-Int-Var : goal.same-returns-in-Int-Var
same-returns-in-Int-Var t c = sym (same-int_var _ _ _ _ _ (c.in-Int-Var.ensures {u = tt}) (c.in-Int-Var.ensures' {u = tt}))

pub same-returns-in-Int-App : goal.same-returns-in-Int-App
same-returns-in-Int-App t c = sym (same-int_app _ _ _ _ _ (c.in-Int-App.ensures {u = tt}) (c.in-Int-App.ensures' {u = tt}))

pub same-returns-in-App-Var : goal.same-returns-in-App-Var
same-returns-in-App-Var t c = sym (same-app_var _ _ _ _ _ _ (c.in-App-Var.ensures {u = tt}) (c.in-App-Var.ensures' {u = tt}))

pub same-returns-in-App-Int : goal.same-returns-in-App-Int
same-returns-in-App-Int t c = sym (same-app_int _ _ _ _ _ (c.in-App-Int.ensures {u = tt}) (c.in-App-Int.ensures' {u = tt}))
