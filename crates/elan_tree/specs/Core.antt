-- What the steps of the core keep.
use Rattle.std.specs.Prelude.{◌≡◌, ℕ, List, [], ◌∷◌, ◌++◌, map}
use Rattle.elan_tree.specs.Tree.{Tree, Item, Open, Cat, First, Then}
use Rattle.elan_tree.specs.Listing.{list}
use Rattle.elan_tree.specs.Moves.{State, Step, Star}

module _ {I O K M : Type 0} (means : I → M) (at : O → List M) (after : K → M → List M) where
  -- an open place becomes a tree with its list
  abbrev pub GrowsTo : O → Tree I O K → Type 0
  GrowsTo o t = list means at after t ≡ at o

  -- a continuation over an item becomes an item or an open place with the list that it makes of the item
  abbrev pub ResumesTo : K → I → Tree I O K → Type 0
  ResumesTo k i (Item j) = means j ∷ [] ≡ after k (means i)
  ResumesTo k i (Open o) = at o ≡ after k (means i)
  ResumesTo k i (Cat ts) = ⊥
  ResumesTo k i (First one arms) = ⊥
  ResumesTo k i (Then one t l) = ⊥

  -- the released items followed by the list of the tree
  abbrev pub whole : State I O K → List M
  whole s = map means s.released ++ list means at after s.tree

  -- every list of core steps from a root
  abbrev pub CoreRun : ℕ → O → State I O K → Type 0
  CoreRun limit root s = Star (Step GrowsTo ResumesTo limit) record { released = []; tree = Open root } s
