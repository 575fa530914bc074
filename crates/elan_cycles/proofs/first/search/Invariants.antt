use Rattle.std.proofs.Common.{◌≡◌, drop}
use Rattle.std.specs.List.{position_from}
use Rattle.elan_cycles.specs.Search.{comes_back}
use Rattle.elan_cycles.proofs.first.search.Given as goal

-- the first one of those that are left is the first one of all
abbrev pub invariant-edges : goal.invariant-edges
invariant-edges l = position_from (comes_back l.edges) l.at (drop l.at l.edges) ≡ position_from (comes_back l.edges) 0 l.edges
