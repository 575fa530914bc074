use Rattle.elan_bags.proofs.LawLemmas.{share_among}
use Rattle.elan_bags.proofs.laws.values_are_shares.Goals as goal

pub returns-clause-among : goal.returns-clause-among
returns-clause-among c = share_among
