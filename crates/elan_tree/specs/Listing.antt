-- The list of a tree, in what its items mean.
use Rattle.std.specs.Prelude.{List, [], ◌∷◌, ◌++◌, Bool, true, false, ◌||◌}
use Rattle.elan_tree.specs.Tree.{Tree, Item, Open, Cat, First, Then, Trees, none, more, Arms, no_arm, arm}

-- a list cut to its first entry, where `one`
abbrev pub cut : {M : Type 0} → Bool → List M → List M
cut false ms = ms
cut true [] = []
cut true (m ∷ ms) = m ∷ []

-- each entry replaced by a list
abbrev pub each : {M : Type 0} → (M → List M) → List M → List M
each f [] = []
each f (m ∷ ms) = f m ++ each f ms

-- `some` where `ms` has an entry, and else `other`
abbrev pub if_any : {M : Type 0} → List M → List M → List M → List M
if_any [] some other = other
if_any (m ∷ ms) some other = some

module _ {I O K M : Type 0} (means : I → M) (at : O → List M) (after : K → M → List M) where
  -- the list of a tree, of trees one after the other, and of alternatives
  abbrev mutual
    pub list : Tree I O K → List M
    list (Item i) = means i ∷ []
    list (Open o) = at o
    list (Cat ts) = lists ts
    list (First one arms) = first_list one arms
    list (Then one t k) = each (after k) (cut one (list t))

    pub lists : Trees I O K → List M
    lists none = []
    lists (more t ts) = list t ++ lists ts

    -- of the first alternative whose list is not empty
    pub first_list : Bool → Arms I O K → List M
    first_list one no_arm = []
    first_list one (arm t k arms) = if_any (list t) (each (after k) (cut one (list t))) (first_list one arms)

-- A tree is sure where it is an item, or a `Cat` with a sure child.
abbrev mutual
  pub sure : {I O K : Type 0} → Tree I O K → Bool
  sure (Item i) = true
  sure (Open o) = false
  sure (Cat ts) = any_sure ts
  sure (First one arms) = false
  sure (Then one t k) = false

  pub any_sure : {I O K : Type 0} → Trees I O K → Bool
  any_sure none = false
  any_sure (more t ts) = sure t || any_sure ts

-- whether a tree is an item
abbrev pub is_item : {I O K : Type 0} → Tree I O K → Bool
is_item (Item i) = true
is_item (Open o) = false
is_item (Cat ts) = false
is_item (First one arms) = false
is_item (Then one t k) = false

-- whether one of the trees is an item
abbrev pub any_item : {I O K : Type 0} → Trees I O K → Bool
any_item none = false
any_item (more t ts) = is_item t || any_item ts

-- whether a tree is the `Cat` of no trees
abbrev pub is_empty : {I O K : Type 0} → Tree I O K → Bool
is_empty (Item i) = false
is_empty (Open o) = false
is_empty (Cat none) = true
is_empty (Cat (more t ts)) = false
is_empty (First one arms) = false
is_empty (Then one t k) = false
