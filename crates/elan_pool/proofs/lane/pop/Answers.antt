use Rattle.crossbeam_deque.specs.Handles.{worker_view, worker_port}
use Rattle.elan_pool.proofs.Balances.{takes}
use Rattle.elan_pool.proofs.lane.pop.Goals as goal

pub pop_as-requires-clause-fifo : goal.pop_as-requires-clause-fifo
pop_as-requires-clause-fifo g c = λ _. takes (worker_port c.args.lane.now) (worker_view c.args.lane.now) c.requires.part
