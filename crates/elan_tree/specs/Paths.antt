-- The way from the root of a tree to an open place: the numbers of children, from 0.
use Rattle.std.specs.Prelude.{ℕ, ◌+◌, List, [], ◌∷◌, Bool, Option, Some, None, if◌then◌else◌}
use Rattle.elan_tree.specs.Tree.{Tree, Item, Open, Cat, First, Then, Trees, none, more, Arms, no_arm, arm}
use Rattle.elan_tree.specs.Places.{or_else}

-- the path that begins with this child
abbrev pub through : ℕ → Option (List ℕ) → Option (List ℕ)
through n None = None
through n (Some path) = Some (n ∷ path)

module _ {I O K : Type 0} (here : O → Bool) where
  -- the path to the leftmost open place that passes the test
  abbrev mutual
    pub path_at : Tree I O K → Option (List ℕ)
    path_at (Item i) = None
    path_at (Open o) = if here o then Some [] else None
    path_at (Cat ts) = any_path 0 ts
    path_at (First one arms) = arm_path 0 arms
    path_at (Then one t k) = through 0 (path_at t)

    -- the first child has this number
    pub any_path : ℕ → Trees I O K → Option (List ℕ)
    any_path n none = None
    any_path n (more t ts) = or_else (through n (path_at t)) (any_path (n + 1) ts)

    pub arm_path : ℕ → Arms I O K → Option (List ℕ)
    arm_path n no_arm = None
    arm_path n (arm t k arms) = or_else (through n (path_at t)) (arm_path (n + 1) arms)
