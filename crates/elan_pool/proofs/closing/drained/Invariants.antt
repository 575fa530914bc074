use Rattle.std.specs.Prelude.{◌≡◌, ◌+◌, ◌*◌, ℕ, length}
use Rattle.elan_pool.specs.Balance.{weigh, numbers}
use Rattle.elan_pool.specs.Closing.{dock_sum}
use Rattle.elan_pool.proofs.closing.drained.Given as goal

-- the docks that are left have all parts, and what the others put is what they took with what was left in them
abbrev pub invariant-docks : goal.invariant-docks
invariant-docks g l =
    (dock_sum (λ v. v.parts) l.docks.items ≡ 256 * length l.docks.items)
    × ((h : ℕ → ℕ) → dock_sum (λ v. weigh h v.put) l.fn.docks.items + dock_sum (λ v. weigh h v.taken) l.docks.items
    ≡ (dock_sum (λ v. weigh h v.taken) l.fn.docks.items + dock_sum (λ v. weigh h v.put) l.docks.items) + weigh h (numbers l.left.items))

abbrev pub decreases-docks : goal.decreases-docks
decreases-docks g l = length l.docks.items
