use Rattle.elan_cycles.proofs.SearchLemmas.{leads_exactly}
use Rattle.elan_cycles.proofs.laws.leads_where_a_way_does.Goals as goal

pub returns : goal.returns
returns c = λ edges a b. leads_exactly edges a b
