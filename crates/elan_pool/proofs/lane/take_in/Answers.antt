use Rattle.crossbeam_deque.specs.Handles.{view, worker_view, worker_port}
use Rattle.elan_pool.proofs.Balances.{merges, most}
use Rattle.elan_pool.proofs.lane.take_in.Goals as goal

pub absorb-requires-clause-rule : goal.absorb-requires-clause-rule
absorb-requires-clause-rule g c = merges (worker_port c.args.lane.now) (worker_view c.args.lane.now) c.args.key.id (view c.args.key) c.requires.part

pub len_as-requires : goal.len_as-requires
len_as-requires g c = most g.row.B.Denot (worker_port c.absorb.new.self) (worker_view c.absorb.new.self)
