use Rattle.std.proofs.Common.{◌∙◌, ap, sym}
use Rattle.elan_program.specs.Patterns.{is_bound}
use Rattle.elan_clauses.proofs.BoundLemmas.{is_found, found_bound}
use Rattle.elan_clauses.proofs.bound_variables.BoundVariables.is_bound.Goals as goal

pub returns-in-None : goal.returns-in-None
returns-in-None c =
    ap (λ r. is_found r c.args.sort) c.in-None.ensures.value ∙ found_bound c.args.number c.args.sort c.self.inside.sorts.entries c.self.invariant
    ∙ ap (λ es. is_bound es (c.args.number, c.args.sort)) c.self.view_is

pub returns-in-Some : goal.returns-in-Some
returns-in-Some c =
    ap (λ r. is_found r c.args.sort) c.in-Some.ensures.value ∙ found_bound c.args.number c.args.sort c.self.inside.sorts.entries c.self.invariant
    ∙ ap (λ es. is_bound es (c.args.number, c.args.sort)) c.self.view_is
