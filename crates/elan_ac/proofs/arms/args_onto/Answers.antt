use Rattle.std.proofs.Common.{refl, sym, ap, ◌∙◌, [], ◌∷◌, ◌++◌, take, append_assoc}
use Rattle.elan_shared.specs.Nodes.{arguments}
use Rattle.elan_table.specs.Rows.{terms}
use Rattle.elan_ac.proofs.NodeLemmas.{take_next, terms_push}
use Rattle.elan_ac.proofs.arms.args_onto.Goals as goal

pub loop-place-preserved : goal.loop-place-preserved
loop-place-preserved g c =
    ap terms c.in_ok-push.ensures.items ∙ terms_push _ c.in_ok-arg.field-0 c.in_ok-arg.field-0.value refl
    ∙ ap (λ l. l ++ c.in_ok-arg.field-0.value ∷ []) c.loop-place.invariant ∙ append_assoc (terms c.args.out.now.items) (take c.loop-place.place (arguments c.args.term.now.value)) (c.in_ok-arg.field-0.value ∷ [])
    ∙ ap (λ l. terms c.args.out.now.items ++ l) (sym (take_next (arguments c.args.term.now.value) c.loop-place.place _ c.in_ok-arg.ensures))
