use Rattle.std.specs.Prelude.{◌≡◌, ◌+◌, ◌≤◌, List, ◌++◌, length, map}
use Rattle.elan_pool.specs.Names.{Deque}
use Rattle.elan_pool.specs.Deques.{deque_of}
use Rattle.elan_pool.specs.Making.{Each, IsNewDock}
use Rattle.elan_pool.proofs.making.docks_of.Given as goal

-- the deques that are left are the first ones, and there is a dock for each of the others
abbrev pub invariant-deques : goal.invariant-deques
invariant-deques g l =
    ((rest : List Deque) × (g.P.PoolName.deques ≡ map deque_of l.deques.items ++ rest))
    × (length l.docks.items + length l.deques.items ≡ length g.P.PoolName.deques)
    × (length l.deques.items ≤ 64)
    × Each (IsNewDock (length g.P.PoolName.deques) 0) l.docks.items

abbrev pub decreases-deques : goal.decreases-deques
decreases-deques g l = length l.deques.items
