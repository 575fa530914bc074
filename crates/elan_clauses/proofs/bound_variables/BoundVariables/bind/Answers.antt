use Rattle.std.proofs.Common.{◌∙◌, ap, sym}
use Rattle.elan_clauses.specs.Texts.{has_number}
use Rattle.elan_clauses.proofs.BoundLemmas.{found_any, noted_known, inserted}
use Rattle.elan_clauses.proofs.bound_variables.BoundVariables.bind.Goals as goal

pub returns-then-is_some : goal.returns-then-is_some
returns-then-is_some c =
    noted_known (c.args.number, c.args.sort) c.args.self.now
    (ap (λ es. has_number es c.args.number) (sym c.self.view_is) ∙ sym (found_any c.args.number c.self.inside.sorts.entries)
    ∙ sym c.get_index_of.ensures.found ∙ sym c.is_some.ensures ∙ c.if-is_some.true)

pub returns : goal.returns
returns c =
    inserted (c.args.number, c.args.sort) c.self.inside.sorts c.args.self.now c.insert.new.self.entries c.self.view_is
    (sym c.get_index_of.ensures.found ∙ sym c.is_some.ensures ∙ c.if-is_some.false) c.in_ok-insert.ensures.entries
