-- The deques that a pool is made of.
use Rattle.std.specs.Prelude.{List, map}
use Rattle.crossbeam_deque.specs.Handles.{worker_deque}
use Rattle.elan_pool.specs.Names.{Deque}
use Rattle.elan_pool.specs.declared.dock.NewDeque.{NewDeque}
use Rattle.elan_pool.specs.declared.deques.Deques.{Deques}

module _ {B N : Type 0} where
  -- what tells a new deque from the others
  abbrev pub deque_of : NewDeque B N → Deque
  deque_of d = worker_deque d.lane

  -- the deques, by number
  abbrev pub deques_of : Deques B N → List Deque
  deques_of d = map deque_of d.list.items
