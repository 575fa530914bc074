use Rattle.elan_arms.proofs.Brought.{some-brought}
use Rattle.elan_arms.proofs.Nodes.{other-arms}
use Rattle.elan_arms.proofs.node.patterns_bring_terms.Goals as goal

pub returns-clause-one : goal.returns-clause-one
returns-clause-one c = λ shapes value op p v h. other-arms shapes value op p v h

pub returns-clause-some : goal.returns-clause-some
returns-clause-some c = λ shapes value op p ac h k. some-brought shapes value op p ac h k
