use Rattle.elan_chart.proofs.LawLemmas.{numbers}
use Rattle.elan_chart.proofs.laws.numbers_are_in_range.Goals as goal

pub returns : goal.returns
returns c = λ bytes found h. numbers bytes found h
