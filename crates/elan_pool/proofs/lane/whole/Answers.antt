use Rattle.crossbeam_deque.specs.Handles.{worker_view, worker_port}
use Rattle.elan_pool.proofs.Balances.{whole}
use Rattle.elan_pool.proofs.lane.whole.Goals as goal

pub another-requires : goal.another-requires
another-requires g c = whole (worker_port c.args.lane) (worker_view c.args.lane)
