use Rattle.elan_cycles.specs.Marks.{Widens}
use Rattle.elan_cycles.proofs.reach.walk.Given as goal

-- marks were only passed along edges
abbrev pub invariant-nodes : goal.invariant-nodes
invariant-nodes l = Widens l.edges l.fn.marks l.marks
