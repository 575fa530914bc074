use Rattle.crossbeam_deque.specs.Handles.{view}
use Rattle.elan_pool.proofs.Balances.{takes}
use Rattle.elan_pool.proofs.lane.steal.Goals as goal

pub steal_as-requires-clause-takes : goal.steal_as-requires-clause-takes
steal_as-requires-clause-takes g c = takes c.args.key.now.id (view c.args.key.now) c.requires.part
