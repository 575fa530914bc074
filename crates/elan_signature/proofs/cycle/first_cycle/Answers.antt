use Rattle.std.proofs.Common.{◌∙◌}
use Rattle.elan_signature.proofs.CycleLemmas.{number_element}
use Rattle.elan_signature.proofs.cycle.first_cycle.Goals as goal

pub returns : goal.returns
returns c =
    c.injection_at.ensures
    ∙ number_element c.args.all.now _ _ (c.as_slice.ensures ∙ c.in_ok-edges.ensures) c.in_ok-number.ensures.value
