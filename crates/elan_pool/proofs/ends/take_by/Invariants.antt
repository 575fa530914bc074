use Rattle.std.specs.Prelude.{◌≡◌, ℕ, ◌<◌, ◌⊎◌}
use Rattle.elan_pool.specs.Taking.{Same, NoFall, Rose}
use Rattle.elan_pool.proofs.ends.take_by.Given as goal

-- nothing was taken, and each deque that was tried gave nothing
abbrev pub invariant-others : goal.invariant-others
invariant-others g l =
    (g.E.Ends.count l.ends ≡ g.E.Ends.count l.fn.ends)
    × (g.E.Ends.mine l.ends ≡ g.E.Ends.mine l.fn.ends)
    × (g.E.Ends.put l.ends ≡ g.E.Ends.put l.fn.ends)
    × (g.E.Ends.room l.ends ≡ g.E.Ends.room l.fn.ends)
    × Same (g.E.Ends.taken l.fn.ends) (g.E.Ends.taken l.ends)
    × NoFall (g.E.Ends.missed l.fn.ends) (g.E.Ends.missed l.ends)
    × ((d : ℕ) → (d < l.deque) ⊎ (d ≡ g.E.Ends.mine l.fn.ends) → Rose (g.E.Ends.missed l.fn.ends d) (g.E.Ends.missed l.ends d))
    × (l.own ≡ g.E.Ends.mine l.fn.ends)
    × (l.deques ≡ g.E.Ends.count l.fn.ends)
