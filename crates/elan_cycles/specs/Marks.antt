-- Marks and ranks of nodes, each in a list by the node's number.
use Rattle.std.specs.Prelude.{◌≡◌, ◌<◌, ℕ, Bool, true, false, not, ◌&&◌, nat_lt, nat_le, List, length, slice_index_or, slice_set, replicate}
use Rattle.std.specs.List.{Contains, list_all, count_by}
use Rattle.elan_cycles.specs.declared.edge.Edge.{Edge}
use Rattle.elan_cycles.specs.Edges.{Path}

-- whether a node is marked
abbrev pub is_marked : List Bool → ℕ → Bool
is_marked marks node = slice_index_or marks node false

-- marks of so many nodes, of which this one alone is marked
abbrev pub marked_alone : ℕ → ℕ → List Bool
marked_alone count node = slice_set (replicate count false) node true

-- an edge leads from a marked node to one that is not marked
abbrev pub is_open : List Bool → Edge → Bool
is_open marks e = is_marked marks e.from && not (is_marked marks e.to)

-- how many nodes are not marked
abbrev pub unmarked : List Bool → ℕ
unmarked marks = count_by not marks

-- both nodes of each edge are below a number
abbrev pub AreBelow : ℕ → List Edge → Type 0
AreBelow count edges = (e : Edge) → Contains edges e → (e.from < count) × (e.to < count)

-- no edge leads from a marked node to one that is not marked
abbrev pub AreClosed : List Edge → List Bool → Type 0
AreClosed edges marks = (e : Edge) → Contains edges e → is_open marks e ≡ false

-- marks stay, and each new one stands at the end of a way from a node that was marked
pub record Widens (edges : List Edge) (old new : List Bool) : Type 0 where
  pub same_length : length new ≡ length old
  pub kept : (node : ℕ) → is_marked old node ≡ true → is_marked new node ≡ true
  pub led : (node : ℕ) → is_marked new node ≡ true → (start : ℕ) × (is_marked old start ≡ true) × Path edges start node

-- the rank of a node, which is 0 where none is given
abbrev pub rank_of : List ℕ → ℕ → ℕ
rank_of ranks node = slice_index_or ranks node 0

-- whether the rank falls along an edge
abbrev pub falls : List ℕ → Edge → Bool
falls ranks e = nat_lt (rank_of ranks e.to) (rank_of ranks e.from)

-- whether the rank rises along no edge
abbrev pub never_rises : List ℕ → List Edge → Bool
never_rises ranks = list_all (λ e. nat_le (rank_of ranks e.to) (rank_of ranks e.from))
