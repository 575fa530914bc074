use Rattle.std.proofs.Common.{◌∙◌, sym, ap}
use Rattle.elan_numbers.specs.Numbering.{is_called, number_of}
use Rattle.elan_numbers.proofs.NumberLemmas.{position-map}
use Rattle.elan_numbers.proofs.numbers.Numbers.number_of.Goals as goal

pub returns-clause-value : goal.returns-clause-value
unfolding number_of
returns-clause-value c =
    c.get_index_of.ensures.index
    ∙ sym (position-map (λ k. record { bytes = k.items }) (is_called c.args.name.now) c.self.inside.names.keys)
    ∙ ap (number_of c.args.name.now) c.self.view_is
