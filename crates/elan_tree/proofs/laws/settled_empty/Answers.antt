use Rattle.elan_tree.proofs.Emptied.{settled_empty}
use Rattle.elan_tree.proofs.laws.settled_empty.Goals as goal

pub returns : goal.returns
returns g c limit s within settled no_place = settled_empty limit s within settled no_place
