-- Which edges lie on a cycle, as tests that compute.
use Rattle.std.specs.Prelude.{ℕ, zero, suc, Bool, ◌==◌, Option, List, [], ◌∷◌, ◌++◌, map, length}
use Rattle.std.specs.List.{list_any, filter, position}
use Rattle.elan_cycles.specs.declared.edge.Edge.{Edge}

-- whether a node is among these
abbrev pub is_among : ℕ → List ℕ → Bool
is_among node nodes = list_any (λ n. n == node) nodes

-- these nodes, and those to which an edge leads from one of them
unfoldable pub grown : List Edge → List ℕ → List ℕ
grown edges nodes = nodes ++ map (λ e. e.to) (filter (λ e. is_among e.from nodes) edges)

-- the nodes to which a way of at most so many edges leads from one of these
unfoldable pub reached : List Edge → ℕ → List ℕ → List ℕ
reached edges zero nodes = nodes
reached edges (suc n) nodes = reached edges n (grown edges nodes)

-- whether a way leads from one node to another; a way that uses no edge twice has no more edges than there are
unfoldable pub leads : List Edge → ℕ → ℕ → Bool
leads edges a b = is_among b (reached edges (length edges) (a ∷ []))

-- whether a way leads from an edge's end to its beginning
abbrev pub comes_back : List Edge → Edge → Bool
comes_back edges e = leads edges e.to e.from

-- the number of the first edge that lies on a cycle, if one does
abbrev pub first_on_cycle : List Edge → Option ℕ
first_on_cycle edges = position (comes_back edges) edges
