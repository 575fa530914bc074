use Rattle.elan_laws.proofs.CanonicalLaws.{canonical-canon}
use Rattle.elan_laws.proofs.MatchLaws.{instance-canon}
use Rattle.elan_laws.proofs.laws.instances_are_canonical.Goals as goal

pub returns : goal.returns
returns c = λ shapes value p h. instance-canon shapes value (λ x. canonical-canon shapes (value x) (h x)) p
