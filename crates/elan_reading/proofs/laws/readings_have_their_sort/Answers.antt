use Rattle.elan_reading.proofs.ReadingLemmas.{taken}
use Rattle.elan_reading.proofs.SortLaws.{sorted}
use Rattle.elan_reading.proofs.laws.readings_have_their_sort.Goals as goal

pub returns-clause-some : goal.returns-clause-some
returns-clause-some c = λ g vs s run t grouped sound r. taken g vs sound s run t grouped r

pub returns-clause-sort : goal.returns-clause-sort
returns-clause-sort c = λ g vs s run t grouped sound h r. sorted g vs sound s run t grouped h r
