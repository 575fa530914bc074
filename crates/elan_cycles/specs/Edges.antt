-- A directed graph is a list of edges. An edge lies on a cycle where edges lead from its end back to its beginning.
use Rattle.std.specs.Prelude.{◌≡◌, ◌<◌, ℕ, List, Some, slice_get}
use Rattle.std.specs.List.{Contains}
use Rattle.elan_cycles.specs.declared.edge.Edge.{Edge}

-- the edge from one node to another
abbrev pub edge : ℕ → ℕ → Edge
edge a b = record { from = a; to = b }

-- a way along edges from one node to another; the one from a node to itself has no edge
pub data Path (edges : List Edge) : ℕ → ℕ → Type 0 where
  here : {a : ℕ} → Path edges a a
  along : {a b c : ℕ} → Contains edges (edge a b) → Path edges b c → Path edges a c

-- an edge of the graph lies on a cycle: a way leads from its end to its beginning
abbrev pub LiesOnCycle : List Edge → Edge → Type 0
LiesOnCycle edges e = Contains edges e × Path edges e.to e.from

-- no edge lies on a cycle
abbrev pub HasNoCycle : List Edge → Type 0
HasNoCycle edges = (e : Edge) → LiesOnCycle edges e → ⊥

-- the edge of a number lies on a cycle
abbrev pub IsOnCycleAt : List Edge → ℕ → Type 0
IsOnCycleAt edges n = (e : Edge) × (slice_get edges n ≡ Some e) × LiesOnCycle edges e

-- the edge of this number lies on a cycle, and none before it does
pub record IsFirstOnCycle (edges : List Edge) (n : ℕ) : Type 0 where
  pub on_cycle : IsOnCycleAt edges n
  pub none_before : (k : ℕ) → k < n → IsOnCycleAt edges k → ⊥
