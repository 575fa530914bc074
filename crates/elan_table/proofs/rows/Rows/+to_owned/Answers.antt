use Rattle.std.proofs.Common.{sym, ◌∙◌, rules}
use Rattle.elan_shared.proofs.NodeLemmas.{args_fall}
use Rattle.elan_table.proofs.rows.Rows.+to_owned.Goals as goal

pub to_owned-owned_onto-requires : goal.to_owned-owned_onto-requires
to_owned-owned_onto-requires g t c κs within = (args_fall _ _ _ _ c.decreases (sym c.row.ensures ∙ c.in-App.ensures {u = tt}), search rules)
