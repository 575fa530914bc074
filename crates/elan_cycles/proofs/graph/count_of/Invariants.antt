use Rattle.std.proofs.Common.{drop}
use Rattle.elan_cycles.proofs.MarkLemmas.{Counted}
use Rattle.elan_cycles.proofs.graph.count_of.Given as goal

-- each edge is left or has its nodes below the count
abbrev pub invariant-edges : goal.invariant-edges
invariant-edges l = Counted l.edges (drop l.edge-index l.edges) l.count
