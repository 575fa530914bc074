use Rattle.elan_arms.proofs.Agreement.{agree_on-places, agree_on-variables}
use Rattle.elan_arms.proofs.values.values_decide.Goals as goal

pub returns-clause-places : goal.returns-clause-places
returns-clause-places c = λ shapes value other p h. agree_on-places shapes value other p h

pub returns-clause-variables : goal.returns-clause-variables
returns-clause-variables c = λ shapes value other p h. agree_on-variables shapes value other p h
