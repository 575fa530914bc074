use Rattle.std.proofs.Common.{◌∙◌, ap}
use Rattle.elan_clauses.specs.Texts.{has_number}
use Rattle.elan_clauses.proofs.BoundLemmas.{found_any}
use Rattle.elan_clauses.proofs.bound_variables.BoundVariables.has_number.Goals as goal

pub returns : goal.returns
returns c =
    c.is_some.ensures ∙ c.get_index_of.ensures.found ∙ found_any c.args.number c.self.inside.sorts.entries
    ∙ ap (λ es. has_number es c.args.number) c.self.view_is
