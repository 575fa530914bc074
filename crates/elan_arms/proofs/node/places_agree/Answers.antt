use Rattle.elan_arms.proofs.Places as places
use Rattle.elan_arms.proofs.node.places_agree.Goals as goal

pub returns-clause-exactly : goal.returns-clause-exactly
returns-clause-exactly c = λ shapes value op f ps ts plain. places.plain-exactly shapes value op f ps ts plain

pub returns-clause-heads : goal.returns-clause-heads
returns-clause-heads c = λ shapes value p t e. places.instance-fits shapes value p t e
