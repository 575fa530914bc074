use Rattle.elan_entries.proofs.NodeLemmas.{args_fall}
use Rattle.elan_entries.proofs.shared.+to_owned.Goals as goal

pub to_owned-owned_onto-requires : goal.to_owned-owned_onto-requires
to_owned-owned_onto-requires t c = (args_fall _ _ _ _ c.decreases (c.in-App.ensures {u = tt}), tt)
