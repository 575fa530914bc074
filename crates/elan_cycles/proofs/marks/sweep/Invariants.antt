use Rattle.std.proofs.Common.{drop}
use Rattle.elan_cycles.proofs.MarkLemmas.{Swept}
use Rattle.elan_cycles.proofs.marks.sweep.Given as goal

-- what was swept so far
abbrev pub invariant-edges : goal.invariant-edges
invariant-edges l = Swept l.edges l.fn.marks l.marks (drop l.edge-index l.edges) l.marked
