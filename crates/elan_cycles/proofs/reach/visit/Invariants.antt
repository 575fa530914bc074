use Rattle.elan_cycles.specs.Marks.{Widens}
use Rattle.elan_cycles.proofs.reach.visit.Given as goal

-- marks were only passed along edges
abbrev pub invariant-edges : goal.invariant-edges
invariant-edges l = Widens l.edges l.fn.marks l.marks
