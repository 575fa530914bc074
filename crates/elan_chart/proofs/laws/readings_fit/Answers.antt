use Rattle.elan_chart.proofs.LawLemmas.{used, of_sought}
use Rattle.elan_chart.proofs.laws.readings_fit.Goals as goal

pub returns-clause-sort : goal.returns-clause-sort
returns-clause-sort c = λ g vs run what t sound h r. of_sought g vs run what t sound h r

pub returns-clause-variables : goal.returns-clause-variables
returns-clause-variables c = λ g vs run what t r. used g vs run what t r
