use Rattle.std.proofs.Common.{◌<◌, subst}
use Rattle.elan_table.proofs.Nodes.{node-length}
use Rattle.elan_table_samples.proofs.tables.argument.Goals as goal

pub arg-requires : goal.arg-requires
arg-requires g c = subst (λ n. c.args.place < n) (node-length _ _ _ (c.in-App.ensures {u = tt})) c.if-place-many.true
