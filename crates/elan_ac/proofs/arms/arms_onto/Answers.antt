use Rattle.std.proofs.Common.{subst, ◌≡◌, ◌++◌, IfOk}
use Rattle.elan_table.specs.Rows.{terms}
use Rattle.elan_ac.proofs.NodeLemmas.{node-length, arms-headed, arms-other, arms-integer}
use Rattle.elan_ac.proofs.arms.arms_onto.Goals as goal

pub args_onto-requires : goal.args_onto-requires
args_onto-requires g c = node-length _ _ _ (c.in-App.ensures {u = tt})

pub returns-then-op-f : goal.returns-then-op-f
returns-then-op-f g c =
    subst (λ l. IfOk c.args_onto.result (λ _. terms c.args_onto.new.out.items ≡ terms c.args.out.now.items ++ l))
    (arms-headed _ _ _ _ (c.in-App.ensures {u = tt}) c.if-op-f.true) c.args_onto.ensures

pub returns-else-op-f : goal.returns-else-op-f
returns-else-op-f g c =
    subst (λ l. IfOk c.row_onto.result (λ _. terms c.row_onto.new.out.items ≡ terms c.args.out.now.items ++ l))
    (arms-other _ _ _ _ (c.in-App.ensures {u = tt}) c.if-op-f.false) c.row_onto.ensures

pub returns-in-Int : goal.returns-in-Int
returns-in-Int g c =
    subst (λ l. IfOk c.row_onto-in-Int.result (λ _. terms c.row_onto-in-Int.new.out.items ≡ terms c.args.out.now.items ++ l))
    (arms-integer _ _ _ (c.in-Int.ensures {u = tt})) c.row_onto-in-Int.ensures
