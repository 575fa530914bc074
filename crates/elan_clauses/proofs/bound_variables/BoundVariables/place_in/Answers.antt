use Rattle.std.proofs.Common.{◌∙◌, ap, length}
use Rattle.std.specs.Prelude.{unwrap_or}
use Rattle.elan_clauses.specs.Rules.{place_in}
use Rattle.elan_clauses.proofs.BoundLemmas.{found_place}
use Rattle.elan_clauses.proofs.bound_variables.BoundVariables.place_in.Goals as goal

pub returns-in-None-clause-exact : goal.returns-in-None-clause-exact
returns-in-None-clause-exact c =
    c.len.ensures.len ∙ ap (λ r. unwrap_or r (length c.self.inside.sorts.entries)) c.in-None.ensures.index
    ∙ found_place c.args.number c.self.inside.sorts.entries ∙ ap (λ es. place_in es c.args.number) c.self.view_is

pub returns-in-Some-clause-exact : goal.returns-in-Some-clause-exact
returns-in-Some-clause-exact c =
    ap (λ r. unwrap_or r (length c.self.inside.sorts.entries)) c.in-Some.ensures.index
    ∙ found_place c.args.number c.self.inside.sorts.entries ∙ ap (λ es. place_in es c.args.number) c.self.view_is
