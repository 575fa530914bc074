use Rattle.std.proofs.Common.{refl, sym, ◌∙◌}
use Rattle.elan_modules.proofs.ReplacingLemmas.{counts_indexed, value_other}
use Rattle.elan_modules.proofs.replacing.separators_by.Goals as goal

pub returns-in-Some : goal.returns-in-Some
returns-in-Some c = counts_indexed c.args.word.now c.args.known.now c.args.values.now c.args.counts.now _ c.requires.each
    c.requires.counted (sym c.number_of.ensures.value ∙ c.in-Some.is)

pub returns-in-None : goal.returns-in-None
returns-in-None c =
    rw (
      c.separators_in.ensures.value,
      value_other c.args.word.now c.args.known.now c.args.values.now
          (sym c.number_of.ensures.value ∙ c.in-None.is),
    ) refl
