-- What a tree stands for, and what holds of every tree.
use Rattle.std.specs.Prelude.{◌≡◌, ℕ, ◌≤◌, List, ◌++◌, length, map, take, All}
use Rattle.std.specs.Coded.{Coded}
use base.Stored.{coded×, coded_ℕ, coded_list, coded_via}
use Rattle.boxcar.specs.Table.{Where, where_coded}
use Rattle.elan_tree.specs.Sense.{Sense}
use Rattle.elan_tree.specs.Tree.{Tree, tree_code}
use Rattle.elan_tree.specs.Listing.{list}
use Rattle.elan_tree.specs.Moves.{State, Step, Star}
use Rattle.elan_tree.specs.Normal.{NoGrow}
use Rattle.elan_tree.specs.Resuming.{Resumes, OfKin}

-- the root, the limit, how many growths stand, the released items in order, and the tree of what is left
pub record Standing (B I K : Type 0) : Type 0 where
  pub root : Where B
  pub limit : ℕ
  pub grown : ℕ
  pub released : List I
  pub tree : Tree I (Where B) K

-- by this code standings are told apart
abbrev pub standing_code : {B I K : Type 0} → Coded B → Coded I → Coded K → Coded (Standing B I K)
standing_code {B} {I} {K} b it k =
    coded_via (coded× (where_coded b) (coded× coded_ℕ (coded× coded_ℕ (coded× (coded_list it) (tree_code it (where_coded b) k)))))
    (λ (s : Standing B I K). (s.root, (s.limit, (s.grown, (s.released, s.tree)))))
    (λ x y e i. record { root = (e i).0; limit = (e i).1.0; grown = (e i).1.1.0; released = (e i).1.1.1.0; tree = (e i).1.1.1.1 })

-- the released items and the tree, as a state of the core
abbrev pub state : {B I K : Type 0} → Standing B I K → State I (Where B) K
state s = record { released = s.released; tree = s.tree }

-- the branch that a spot names
abbrev pub branch_of : {B : Type 0} → Where B → B
branch_of s = s.value

module _ {B I K M : Type 0} (w : Sense B I K M) where
  -- the list of a tree whose open places are posted branches
  abbrev pub tree_list : Tree I (Where B) K → List M
  tree_list t = list w.means (λ s. w.items s.value) w.after t

  -- the released items followed by the list of the tree
  abbrev pub whole : Standing B I K → List M
  whole s = map w.means s.released ++ tree_list s.tree

  -- each of the items is of this kin
  abbrev pub ItemsOfKin : ℕ → List I → Type 0
  ItemsOfKin kin items = All (λ i. w.kin_of_item i ≡ kin) items

  -- at most the limit is released, the first items are those of the root, and all is of the root's kin
  pub record Sound (s : Standing B I K) : Type 0 where
    pub within : length s.released ≤ s.limit
    pub first : take s.limit (whole s) ≡ take s.limit (w.items s.root.value)
    pub kin : OfKin w branch_of (w.kin s.root.value) s.tree
    pub released_kin : ItemsOfKin (w.kin s.root.value) s.released

  -- a step other than growing, in the tree of this standing
  abbrev pub StepOf : Standing B I K → State I (Where B) K → State I (Where B) K → Type 0
  StepOf s x y = Step NoGrow (Resumes w branch_of (w.kin s.root.value)) s.limit x y

  -- steps other than growing lead from one standing to the other, and nothing else changes
  pub record Advances (old new : Standing B I K) : Type 0 where
    pub steps : Star (StepOf old) (state old) (state new)
    pub root : new.root ≡ old.root
    pub limit : new.limit ≡ old.limit
    pub grown : new.grown ≡ old.grown
