-- The steps that settle a tree whose places are marked.
use Rattle.std.specs.Prelude.{◌≡◌, ℕ, [], ◌∷◌, true}
use Rattle.elan_tree.specs.Sense.{Sense}
use Rattle.elan_tree.specs.Tree.{Tree, Item, Open, Cat, First, Then, Trees, Arms}
use Rattle.elan_tree.specs.Moves.{Move, Moves, ArmMoves, Star}
use Rattle.elan_tree.specs.Normal.{NoGrow}
use Rattle.elan_tree.specs.Resuming.{OfKin, AllOfKin, ArmsOfKin}
use Rattle.elan_tree.specs.Marks.{Place, branch_at}

module _ {B I K M : Type 0} (w : Sense B I K M) (kin : ℕ) where
  -- what a continuation makes of an item: an item, or a new open place
  abbrev pub Makes : K → I → Tree I (Place B) K → Type 0
  Makes k i (Item j) = (w.means j ∷ [] ≡ w.after k (w.means i)) × (w.kin_of_item j ≡ kin)
  Makes k i (Open p) = (w.items p.spot.value ≡ w.after k (w.means i)) × (p.fresh ≡ true) × (w.kin p.spot.value ≡ kin)
  Makes k i (Cat ts) = ⊥
  Makes k i (First one arms) = ⊥
  Makes k i (Then one t l) = ⊥

  -- all that stands in a tree, in children or in alternatives is of this kin
  abbrev pub Fit : Tree I (Place B) K → Type 0
  Fit t = OfKin w branch_at kin t

  -- the same of children
  abbrev pub Fits : Trees I (Place B) K → Type 0
  Fits ts = AllOfKin w branch_at kin ts

  -- the same of alternatives
  abbrev pub FitArms : Arms I (Place B) K → Type 0
  FitArms arms = ArmsOfKin w branch_at kin arms

  -- steps other than growing lead from the first to the second
  abbrev pub Settles : Tree I (Place B) K → Tree I (Place B) K → Type 0
  Settles t u = Star (Move NoGrow Makes) t u

  -- the same in a list of children
  abbrev pub SettlesAll : Trees I (Place B) K → Trees I (Place B) K → Type 0
  SettlesAll ts us = Star (Moves NoGrow Makes) ts us

  -- the same in a list of alternatives
  abbrev pub SettlesArms : Arms I (Place B) K → Arms I (Place B) K → Type 0
  SettlesArms xs ys = Star (ArmMoves NoGrow Makes) xs ys
