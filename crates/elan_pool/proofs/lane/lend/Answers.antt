use Rattle.crossbeam_deque.specs.Handles.{worker_view, worker_port}
use Rattle.elan_pool.proofs.Balances.{forks}
use Rattle.elan_pool.proofs.lane.lend.Goals as goal

pub another-requires : goal.another-requires
another-requires g c = forks (worker_port c.args.lane.now) (worker_view c.args.lane.now) c.requires.part
