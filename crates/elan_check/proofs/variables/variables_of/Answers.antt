use Rattle.std.proofs.lemmas.List.{take_rest}
use Rattle.elan_check.proofs.StepLemmas.{variables_kept}
use Rattle.elan_check.proofs.variables.variables_of.Goals as goal

pub declarations-preserved : goal.declarations-preserved
declarations-preserved c =
    variables_kept _ _ _ _ c.declarations.left.now _ c.first-item.result _ c.first-item.is c.in-len1-up.len_at_least
    (take_rest _ 1) c.in_ok-declared_onto.ensures c.declarations.invariant
