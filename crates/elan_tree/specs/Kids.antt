-- Lists of children.
use Rattle.std.specs.Prelude.{ℕ, ◌+◌, List, [], ◌∷◌, Bool, not}
use Rattle.elan_tree.specs.Tree.{Tree, Item, Open, Cat, First, Then, Trees, none, more, Arms, no_arm, arm}
use Rattle.elan_tree.specs.Listing.{is_item}
use Rattle.elan_tree.specs.Moves.{join}

-- each `Cat` among the children is spliced in
abbrev pub flat : {I O K : Type 0} → Trees I O K → Trees I O K
flat none = none
flat (more (Item i) us) = more (Item i) (flat us)
flat (more (Open o) us) = more (Open o) (flat us)
flat (more (Cat ts) us) = join ts (flat us)
flat (more (First one arms) us) = more (First one arms) (flat us)
flat (more (Then one t k) us) = more (Then one t k) (flat us)

-- how many children
abbrev pub count : {I O K : Type 0} → Trees I O K → ℕ
count none = 0
count (more t ts) = 1 + count ts

-- how many children a node stands for
abbrev pub width : {I O K : Type 0} → Tree I O K → ℕ
width (Item i) = 1
width (Open o) = 1
width (Cat ts) = count ts
width (First one arms) = 1
width (Then one t k) = 1

-- the children that a node stands for
abbrev pub parts : {I O K : Type 0} → Tree I O K → Trees I O K
parts (Item i) = more (Item i) none
parts (Open o) = more (Open o) none
parts (Cat ts) = ts
parts (First one arms) = more (First one arms) none
parts (Then one t k) = more (Then one t k) none

-- how many children there are once each `Cat` among them is spliced in
abbrev pub widths : {I O K : Type 0} → Trees I O K → ℕ
widths none = 0
widths (more t ts) = width t + widths ts

-- the children up to the first item
abbrev pub cut_kids : {I O K : Type 0} → Trees I O K → Trees I O K
cut_kids none = none
cut_kids (more (Item i) us) = more (Item i) none
cut_kids (more (Open o) us) = more (Open o) (cut_kids us)
cut_kids (more (Cat ts) us) = more (Cat ts) (cut_kids us)
cut_kids (more (First one arms) us) = more (First one arms) (cut_kids us)
cut_kids (more (Then one t k) us) = more (Then one t k) (cut_kids us)

-- whether a node is no item
abbrev pub not_item : {I O K : Type 0} → Tree I O K → Bool
not_item t = not (is_item t)

-- a `Then` with another child
abbrev pub with_child : {I O K : Type 0} → Tree I O K → Tree I O K → Tree I O K
with_child (Item i) u = Item i
with_child (Open o) u = Open o
with_child (Cat ts) u = Cat ts
with_child (First one arms) u = First one arms
with_child (Then one t k) u = Then one u k

-- each `Then` with a child of its own
abbrev pub with_children : {I O K : Type 0} → List (Tree I O K) → List (Tree I O K) → List (Tree I O K)
with_children [] us = []
with_children (t ∷ ts) [] = t ∷ ts
with_children (t ∷ ts) (u ∷ us) = with_child t u ∷ with_children ts us

-- the only tree, or else a `Cat` of them
abbrev pub joined : {I O K : Type 0} → Trees I O K → Tree I O K
joined none = Cat none
joined (more t none) = t
joined (more t (more u ts)) = Cat (more t (more u ts))

-- the alternatives without the empty ones at the front
abbrev pub trimmed : {I O K : Type 0} → Arms I O K → Arms I O K
trimmed no_arm = no_arm
trimmed (arm (Item i) k arms) = arm (Item i) k arms
trimmed (arm (Open o) k arms) = arm (Open o) k arms
trimmed (arm (Cat none) k arms) = trimmed arms
trimmed (arm (Cat (more t ts)) k arms) = arm (Cat (more t ts)) k arms
trimmed (arm (First one alts) k arms) = arm (First one alts) k arms
trimmed (arm (Then one t l) k arms) = arm (Then one t l) k arms
