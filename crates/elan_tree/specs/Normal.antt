-- Where no step but growing applies.
use Rattle.std.specs.Prelude.{◌≡◌, ℕ, Bool, true, false}
use Rattle.elan_tree.specs.Tree.{Tree, Item, Open, Cat, First, Then, Trees, none, more, Arms, no_arm, arm}
use Rattle.elan_tree.specs.Listing.{sure}
use Rattle.elan_tree.specs.Moves.{State, Step}

-- no open place grows
abbrev pub NoGrow : {I O K : Type 0} → O → Tree I O K → Type 0
NoGrow o t = ⊥

-- any tree may stand for an item that is resumed
abbrev pub AnyResume : {I O K : Type 0} → K → I → Tree I O K → Type 0
AnyResume k i t = Unit {0}

-- no step of the kinds tidy to stop applies
abbrev pub IsSettled : {I O K : Type 0} → ℕ → State I O K → Type 0
IsSettled limit s = (t : _) → Step NoGrow AnyResume limit s t → ⊥

-- ---- the shape of such a tree
abbrev pub NotCat : {I O K : Type 0} → Tree I O K → Type 0
NotCat (Item i) = Unit {0}
NotCat (Open o) = Unit {0}
NotCat (Cat ts) = ⊥
NotCat (First one arms) = Unit {0}
NotCat (Then one t k) = Unit {0}

-- the tree is not the empty `Cat`
abbrev pub NotEmpty : {I O K : Type 0} → Tree I O K → Type 0
NotEmpty (Item i) = Unit {0}
NotEmpty (Open o) = Unit {0}
NotEmpty (Cat none) = ⊥
NotEmpty (Cat (more t ts)) = Unit {0}
NotEmpty (First one arms) = Unit {0}
NotEmpty (Then one t k) = Unit {0}

-- not one child alone
abbrev pub NotOne : {I O K : Type 0} → Trees I O K → Type 0
NotOne none = Unit {0}
NotOne (more t none) = ⊥
NotOne (more t (more u ts)) = Unit {0}

-- no child stands to the right of a sure one
abbrev pub SureLast : {I O K : Type 0} → Trees I O K → Type 0
SureLast none = Unit {0}
SureLast (more t none) = Unit {0}
SureLast (more t (more u ts)) = (sure t ≡ false) × SureLast (more u ts)

-- what may stand under a `Then`
abbrev pub Under : {I O K : Type 0} → Bool → Tree I O K → Type 0
Under one (Item i) = ⊥
Under one (Open o) = Unit {0}
Under true (Cat ts) = SureLast ts
Under false (Cat ts) = ⊥
Under one (First one' arms) = Unit {0}
Under one (Then one' t k) = Unit {0}

-- there is a first alternative, and it is neither empty nor sure
abbrev pub NotBare : {I O K : Type 0} → Arms I O K → Type 0
NotBare no_arm = ⊥
NotBare (arm t k arms) = NotEmpty t × (sure t ≡ false)

-- no step but growing applies inside the tree
abbrev mutual
  pub Normal : {I O K : Type 0} → Tree I O K → Type 0
  Normal (Item i) = Unit {0}
  Normal (Open o) = Unit {0}
  Normal (Cat ts) = NotOne ts × Flats ts
  Normal (First one arms) = NotBare arms × NormalArms arms
  Normal (Then one t k) = Under one t × NotEmpty t × Normal t

  -- each child is normal and no `Cat`
  pub Flats : {I O K : Type 0} → Trees I O K → Type 0
  Flats none = Unit {0}
  Flats (more t ts) = NotCat t × Normal t × Flats ts

  pub NormalArms : {I O K : Type 0} → Arms I O K → Type 0
  NormalArms no_arm = Unit {0}
  NormalArms (arm t k arms) = Normal t × NormalArms arms

-- each tree is normal
abbrev pub Normals : {I O K : Type 0} → Trees I O K → Type 0
Normals none = Unit {0}
Normals (more t ts) = Normal t × Normals ts

-- a `Then` over a normal tree that is no `Cat`
abbrev pub Waits : {I O K : Type 0} → Tree I O K → Type 0
Waits (Item i) = ⊥
Waits (Open o) = ⊥
Waits (Cat ts) = ⊥
Waits (First one arms) = ⊥
Waits (Then one t k) = NotCat t × Normal t

-- each tree is a `Then` over a normal tree that is no `Cat`
abbrev pub AllWait : {I O K : Type 0} → Trees I O K → Type 0
AllWait none = Unit {0}
AllWait (more t ts) = Waits t × AllWait ts

-- what stands directly below the node is normal
abbrev pub Below : {I O K : Type 0} → Tree I O K → Type 0
Below (Item i) = Unit {0}
Below (Open o) = Unit {0}
Below (Cat ts) = Normals ts
Below (First one arms) = NormalArms arms
Below (Then one t k) = Normal t
