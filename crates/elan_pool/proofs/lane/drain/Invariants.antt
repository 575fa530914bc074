use Rattle.std.specs.Prelude.{◌≡◌, ◌+◌, ℕ}
use Rattle.crossbeam_deque.specs.Handles.{worker_view, worker_flavor}
use Rattle.elan_pool.specs.Balance.{numbers, weigh}
use Rattle.elan_pool.proofs.lane.drain.Given as goal

-- every part is here, nothing more was put, and what was taken more is what is left over more
abbrev pub invariant-loop : goal.invariant-loop
invariant-loop g l =
    (worker_flavor l.lane ≡ 0)
    × ((worker_view l.lane).parts ≡ 256)
    × ((worker_view l.lane).put ≡ (worker_view l.fn.lane).put)
    × ((h : ℕ → ℕ) → weigh h (worker_view l.lane).taken + weigh h (numbers l.fn.left.items) ≡ weigh h (worker_view l.fn.lane).taken + weigh h (numbers l.left.items))
