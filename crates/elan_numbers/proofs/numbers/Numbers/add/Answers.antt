use Rattle.std.proofs.Common.{◌∙◌, sym, ap}
use Rattle.elan_numbers.specs.Numbering.{with_name}
use Rattle.elan_numbers.proofs.NumberLemmas.{known, inserted}
use Rattle.elan_numbers.proofs.numbers.Numbers.add.Goals as goal

pub returns-then-is_some-clause-ok : goal.returns-then-is_some-clause-ok
returns-then-is_some-clause-ok c =
    sym c.self.view_is
    ∙ known (λ k. k.items) c.args.name.now c.self.inside.names.keys
    (sym c.get_index_of.ensures.found ∙ sym c.is_some.ensures ∙ c.if-is_some.true)
    ∙ ap (λ names. with_name names c.args.name.now) c.self.view_is

pub returns-clause-ok : goal.returns-clause-ok
returns-clause-ok c =
    inserted (λ k. k.items) c.args.name.now c.in_ok-bytes.bytes c.self.inside.names.keys c.insert.new.self.keys
    c.in_ok-insert.ensures.keys c.in_ok-bytes.ensures.items
    (sym c.get_index_of.ensures.found ∙ sym c.is_some.ensures ∙ c.if-is_some.false)
    ∙ ap (λ names. with_name names c.args.name.now) c.self.view_is
