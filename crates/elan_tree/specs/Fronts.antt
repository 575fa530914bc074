-- The item in front of a settled tree.
use Rattle.std.specs.Prelude.{◌≡◌}
use Rattle.elan_tree.specs.Tree.{Tree, Item, Open, Cat, First, Then, none, more}
use Rattle.elan_tree.specs.Kids.{joined}

-- the first item leaves the tree
abbrev pub Gives : {I O K : Type 0} → Tree I O K → I → Tree I O K → Type 0
Gives (Item j) i u = (j ≡ i) × (u ≡ Cat none)
Gives (Open o) i u = ⊥
Gives (Cat none) i u = ⊥
Gives (Cat (more (Item j) ts)) i u = (j ≡ i) × (u ≡ joined ts)
Gives (Cat (more (Open o) ts)) i u = ⊥
Gives (Cat (more (Cat us) ts)) i u = ⊥
Gives (Cat (more (First one arms) ts)) i u = ⊥
Gives (Cat (more (Then one t k) ts)) i u = ⊥
Gives (First one arms) i u = ⊥
Gives (Then one t k) i u = ⊥

-- no item stands first
abbrev pub NotFirst : {I O K : Type 0} → Tree I O K → Type 0
NotFirst (Item j) = ⊥
NotFirst (Open o) = Unit {0}
NotFirst (Cat none) = Unit {0}
NotFirst (Cat (more (Item j) ts)) = ⊥
NotFirst (Cat (more (Open o) ts)) = Unit {0}
NotFirst (Cat (more (Cat us) ts)) = Unit {0}
NotFirst (Cat (more (First one arms) ts)) = Unit {0}
NotFirst (Cat (more (Then one t k) ts)) = Unit {0}
NotFirst (First one arms) = Unit {0}
NotFirst (Then one t k) = Unit {0}
