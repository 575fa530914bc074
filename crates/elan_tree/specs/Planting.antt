-- The tree of a growth.
use Rattle.std.specs.Prelude.{◌≡◌, List, [], ◌∷◌}
use Rattle.std.specs.declared.sync.Arc.{Arc}
use Rattle.std.specs.declared.alloc.Global.{Global}
use Rattle.elan_tree.specs.Tree.{Tree, Item, Open, Cat, First, Then, Trees, none, more, Arms, no_arm, arm}
use Rattle.elan_tree.specs.declared.branch.Growth.{Growth}
use Rattle.elan_tree.specs.declared.branch.Growth.TheVariants as G

-- `Is b o`: the open place o is a post of the branch b
module _ {B I O K : Type 0} (Is : B → O → Type 0) where
  -- an open place of the branch
  abbrev pub Posted : B → Tree I O K → Type 0
  Posted b (Item i) = ⊥
  Posted b (Open o) = Is b o
  Posted b (Cat ts) = ⊥
  Posted b (First one arms) = ⊥
  Posted b (Then one t k) = ⊥

  -- open places of the branches, in order
  abbrev pub AllPosted : List B → Trees I O K → Type 0
  AllPosted [] none = Unit {0}
  AllPosted [] (more t ts) = ⊥
  AllPosted (b ∷ bs) none = ⊥
  AllPosted (b ∷ bs) (more t ts) = Posted b t × AllPosted bs ts

  -- open places of the branches, each with its continuation, in order
  abbrev pub ArmsPosted : List (B × Arc K Global) → Arms I O K → Type 0
  ArmsPosted [] no_arm = Unit {0}
  ArmsPosted [] (arm t k arms) = ⊥
  ArmsPosted (a ∷ alts) no_arm = ⊥
  ArmsPosted (a ∷ alts) (arm t k arms) = Posted a.0 t × (k ≡ a.1.value) × ArmsPosted alts arms

module _ {B I O K M : Type 0} (Is : B → O → Type 0) where
  -- nothing, the item, an open place, a `Cat` of open places, or a `First` of open places
  abbrev pub Planted : Growth B I K M → Tree I O K → Type 0
  Planted G.Nothing t = t ≡ Cat none
  Planted (G.Item i) t = t ≡ Item i
  Planted (G.Next b) t = Posted Is b t
  Planted (G.Many bs) t = (ts : Trees I O K) × (t ≡ Cat ts) × AllPosted Is bs.items ts
  Planted (G.Scope one alts) t = (arms : Arms I O K) × (t ≡ First one arms) × ArmsPosted Is alts.items arms
