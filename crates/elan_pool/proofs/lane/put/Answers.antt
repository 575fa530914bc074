use Rattle.std.proofs.Common.{[], ◌∷◌}
use Rattle.crossbeam_deque.specs.Handles.{worker_view, worker_port}
use Rattle.elan_pool.proofs.Balances.{puts}
use Rattle.elan_pool.proofs.lane.put.Goals as goal

pub push_as-requires-clause-pushes : goal.push_as-requires-clause-pushes
push_as-requires-clause-pushes g c = puts (worker_port c.args.lane.now) (worker_view c.args.lane.now) (c.args.spot ∷ []) c.requires.part
