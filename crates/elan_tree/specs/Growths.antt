-- The list of a growth, and its kin.
use Rattle.std.specs.Prelude.{◌≡◌, ℕ, List, [], ◌∷◌, ◌++◌, Bool}
use Rattle.std.specs.declared.sync.Arc.{Arc}
use Rattle.std.specs.declared.alloc.Global.{Global}
use Rattle.elan_tree.specs.Sense.{Sense}
use Rattle.elan_tree.specs.Listing.{cut, each, if_any}
use Rattle.elan_tree.specs.declared.branch.Growth.{Growth}
use Rattle.elan_tree.specs.declared.branch.Growth.TheVariants.{Nothing, Item, Next, Many, Scope}
use Rattle.elan_tree.specs.declared.branch.Resumed.{Resumed}
use Rattle.elan_tree.specs.declared.branch.Resumed.TheVariants.{Item as Made, Next as Further}

module _ {B I K M : Type 0} (w : Sense B I K M) where
  -- the lists of branches, joined
  abbrev pub many_list : List B → List M
  many_list [] = []
  many_list (b ∷ bs) = w.items b ++ many_list bs

  -- of the first alternative whose list is not empty
  abbrev pub scope_list : Bool → List (B × Arc K Global) → List M
  scope_list one [] = []
  scope_list one (a ∷ alts) = if_any (w.items a.0) (each (w.after a.1.value) (cut one (w.items a.0))) (scope_list one alts)

  -- the list of a growth
  abbrev pub growth_list : Growth B I K M → List M
  growth_list Nothing = []
  growth_list (Item i) = w.means i ∷ []
  growth_list (Next b) = w.items b
  growth_list (Many bs) = many_list bs.items
  growth_list (Scope one alts) = scope_list one alts.items

  -- each branch is of this kin
  abbrev pub many_kin : ℕ → List B → Type 0
  many_kin kin [] = Unit {0}
  many_kin kin (b ∷ bs) = (w.kin b ≡ kin) × many_kin kin bs

  -- each branch, and each continuation, is of this kin
  abbrev pub scope_kin : ℕ → List (B × Arc K Global) → Type 0
  scope_kin kin [] = Unit {0}
  scope_kin kin (a ∷ alts) = (w.kin a.0 ≡ kin) × (w.kin_of_then a.1.value ≡ kin) × scope_kin kin alts

  -- all of the growth has this kin
  abbrev pub GrowthKin : ℕ → Growth B I K M → Type 0
  GrowthKin kin Nothing = Unit {0}
  GrowthKin kin (Item i) = w.kin_of_item i ≡ kin
  GrowthKin kin (Next b) = w.kin b ≡ kin
  GrowthKin kin (Many bs) = many_kin kin bs.items
  GrowthKin kin (Scope one alts) = scope_kin kin alts.items

  -- a growth of the branch
  abbrev pub GrowthOf : B → Growth B I K M → Type 0
  GrowthOf b g = (growth_list g ≡ w.items b) × GrowthKin (w.kin b) g

  -- what a continuation may make of an item
  abbrev pub ResumedOf : K → I → Resumed B I K M → Type 0
  ResumedOf k i (Made j) = (w.means j ∷ [] ≡ w.after k (w.means i)) × (w.kin_of_item j ≡ w.kin_of_item i)
  ResumedOf k i (Further b) = (w.items b ≡ w.after k (w.means i)) × (w.kin b ≡ w.kin_of_item i)
