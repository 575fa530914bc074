-- The open places of a tree.
use Rattle.std.specs.Prelude.{ℕ, List, [], ◌∷◌, ◌++◌, Bool, false, ◌||◌, ◌==◌, if◌then◌else◌, Option, Some, None}
use Rattle.boxcar.specs.Table.{Where}
use Rattle.elan_tree.specs.Tree.{Tree, Item, Open, Cat, First, Then, Trees, none, more, Arms, no_arm, arm}

-- the open places, in tree order
abbrev mutual
  pub places : {I O K : Type 0} → Tree I O K → List O
  places (Item i) = []
  places (Open o) = o ∷ []
  places (Cat ts) = all_places ts
  places (First one arms) = arm_places arms
  places (Then one t k) = places t

  pub all_places : {I O K : Type 0} → Trees I O K → List O
  all_places none = []
  all_places (more t ts) = places t ++ all_places ts

  pub arm_places : {I O K : Type 0} → Arms I O K → List O
  arm_places no_arm = []
  arm_places (arm t k arms) = places t ++ arm_places arms

-- the first option that has a value
abbrev pub or_else : {A : Type 0} → Option A → Option A → Option A
or_else None other = other
or_else (Some a) other = Some a

-- the leftmost open place
abbrev mutual
  pub first_place : {I O K : Type 0} → Tree I O K → Option O
  first_place (Item i) = None
  first_place (Open o) = Some o
  first_place (Cat ts) = any_place ts
  first_place (First one arms) = arm_place arms
  first_place (Then one t k) = first_place t

  pub any_place : {I O K : Type 0} → Trees I O K → Option O
  any_place none = None
  any_place (more t ts) = or_else (first_place t) (any_place ts)

  pub arm_place : {I O K : Type 0} → Arms I O K → Option O
  arm_place no_arm = None
  arm_place (arm t k arms) = or_else (first_place t) (arm_place arms)

-- whether a spot has this number
abbrev pub numbered : {B : Type 0} → ℕ → Where B → Bool
numbered n s = s.index == n

module _ {I O K : Type 0} (here : O → Bool) where
  -- the leftmost open place that passes the test
  abbrev mutual
    pub first_at : Tree I O K → Option O
    first_at (Item i) = None
    first_at (Open o) = if here o then Some o else None
    first_at (Cat ts) = any_first ts
    first_at (First one arms) = arm_first arms
    first_at (Then one t k) = first_at t

    pub any_first : Trees I O K → Option O
    any_first none = None
    any_first (more t ts) = or_else (first_at t) (any_first ts)

    pub arm_first : Arms I O K → Option O
    arm_first no_arm = None
    arm_first (arm t k arms) = or_else (first_at t) (arm_first arms)

  -- whether an open place passes the test
  abbrev mutual
    pub has : Tree I O K → Bool
    has (Item i) = false
    has (Open o) = here o
    has (Cat ts) = any_has ts
    has (First one arms) = arm_has arms
    has (Then one t k) = has t

    pub any_has : Trees I O K → Bool
    any_has none = false
    any_has (more t ts) = has t || any_has ts

    pub arm_has : Arms I O K → Bool
    arm_has no_arm = false
    arm_has (arm t k arms) = has t || arm_has arms

  -- the tree u at the leftmost open place that passes the test
  abbrev mutual
    pub put : Tree I O K → Tree I O K → Tree I O K
    put u (Item i) = Item i
    put u (Open o) = if here o then u else Open o
    put u (Cat ts) = Cat (put_all u ts)
    put u (First one arms) = First one (put_arms u arms)
    put u (Then one t k) = Then one (put u t) k

    pub put_all : Tree I O K → Trees I O K → Trees I O K
    put_all u none = none
    put_all u (more t ts) = if has t then more (put u t) ts else more t (put_all u ts)

    pub put_arms : Tree I O K → Arms I O K → Arms I O K
    put_arms u no_arm = no_arm
    put_arms u (arm t k arms) = if has t then arm (put u t) k arms else arm t k (put_arms u arms)
