-- What a continuation makes of an item, and the kin of all that stands in a tree.
use Rattle.std.specs.Prelude.{◌≡◌, ℕ, [], ◌∷◌}
use Rattle.elan_tree.specs.Sense.{Sense}
use Rattle.elan_tree.specs.Tree.{Tree, Item, Open, Cat, First, Then, Trees, none, more, Arms, no_arm, arm}

-- `value` tells the branch of an open place
module _ {B I O K M : Type 0} (w : Sense B I K M) (value : O → B) (kin : ℕ) where
  -- an item, or an open place, of this kin and with the list that the continuation makes of the item
  abbrev pub Resumes : K → I → Tree I O K → Type 0
  Resumes k i (Item j) = (w.means j ∷ [] ≡ w.after k (w.means i)) × (w.kin_of_item j ≡ kin)
  Resumes k i (Open o) = (w.items (value o) ≡ w.after k (w.means i)) × (w.kin (value o) ≡ kin)
  Resumes k i (Cat ts) = ⊥
  Resumes k i (First one arms) = ⊥
  Resumes k i (Then one t l) = ⊥

  -- all that stands in the tree is of this kin
  abbrev mutual
    pub OfKin : Tree I O K → Type 0
    OfKin (Item i) = w.kin_of_item i ≡ kin
    OfKin (Open o) = w.kin (value o) ≡ kin
    OfKin (Cat ts) = AllOfKin ts
    OfKin (First one arms) = ArmsOfKin arms
    OfKin (Then one t k) = OfKin t × (w.kin_of_then k ≡ kin)

    pub AllOfKin : Trees I O K → Type 0
    AllOfKin none = Unit {0}
    AllOfKin (more t ts) = OfKin t × AllOfKin ts

    pub ArmsOfKin : Arms I O K → Type 0
    ArmsOfKin no_arm = Unit {0}
    ArmsOfKin (arm t k arms) = OfKin t × (w.kin_of_then k ≡ kin) × ArmsOfKin arms
