-- What placing a growth does to a marked tree, and what the whole call does.
use Rattle.std.specs.Prelude.{◌≡◌, ℕ, ◌+◌, ◌-◌, ◌^◌, ◌≤◌, ◌⊎◌, min, List, length, true, false, IsSomeAnd}
use Rattle.boxcar.specs.Table.{Where}
use Rattle.elan_tree.specs.Sense.{Sense}
use Rattle.elan_tree.specs.Tree.{Tree}
use Rattle.elan_tree.specs.Places.{places, first_at, has, put}
use Rattle.elan_tree.specs.Planting.{Planted}
use Rattle.elan_tree.specs.Moves.{Step, Star}
use Rattle.elan_tree.specs.Normal.{NoGrow, IsSettled}
use Rattle.elan_tree.specs.Marks.{Place, at_place, plain, unmarked, IsFresh, fresh_spots}
use Rattle.elan_tree.specs.Settling.{Makes}
use Rattle.elan_tree.specs.declared.branch.Growth.{Growth}
use Rattle.elan_tree.specs.declared.branch.Grown.{Grown}
use Rattle.elan_tree.specs.declared.branch.Grown.TheVariants.{Taken, Stale}

-- the growth stands at the leftmost place of the spot's number, its places are new and all others are not
pub record Stands {B I K M : Type 0} (spot : Where B) (growth : Growth B I K M) (old new : Tree I (Place B) K) : Type 0 where
  pub open_before : has (at_place spot.index) old ≡ true
  -- the place names the branch of the spot
  pub branch : IsSomeAnd (first_at (at_place spot.index) old) (λ p. p.spot.value ≡ spot.value)
  pub planted : Tree I (Place B) K
  pub of_growth : Planted IsFresh growth planted
  pub stands : new ≡ put (at_place spot.index) planted (unmarked old)

-- how many growths stand, what is released, and the marked tree
pub record Kept (B I K : Type 0) : Type 0 where
  pub grown : ℕ
  pub released : List I
  pub tree : Tree I (Place B) K

-- the growth stands, and steps other than growing lead on from there
pub record Stood {B I K M : Type 0} (w : Sense B I K M) (kin limit : ℕ) (spot : Where B) (growth : Growth B I K M) (old new : Kept B I K) : Type 0 where
  pub middle : Tree I (Place B) K
  pub stands : Stands spot growth old.tree middle
  pub steps : Star (Step NoGrow (Makes w kin) limit) record { released = old.released; tree = middle } record { released = new.released; tree = new.tree }
  pub grown : new.grown ≡ min (old.grown + 1) (2 ^ 64 - 1)

-- the three together
abbrev pub kept : {B I K : Type 0} → ℕ → List I → Tree I (Place B) K → Kept B I K
kept grown released tree = record { grown = grown; released = released; tree = tree }

-- nothing has changed, or the growth stands
abbrev pub Moved : {B I K M : Type 0} → Sense B I K M → ℕ → ℕ → Where B → Growth B I K M → Kept B I K → Kept B I K → Type 0
Moved w kin limit spot growth old new = (new ≡ old) ⊎ Stood w kin limit spot growth old new

-- with so many places open before, the places that are not new are fewer by one at least
abbrev pub Tells : {B I K : Type 0} → ℕ → Tree I (Place B) K → Type 0
Tells before tree = length (places tree) + 1 ≤ before + length (fresh_spots (places tree))

-- what `Taken` tells of the tree
abbrev pub Told : {B I K N : Type 0} → ℕ → ℕ → Tree I (Place B) K → Grown B N → Type 0
Told before count tree (Taken released cut opened) =
    (released ≡ count) × (opened.items ≡ fresh_spots (places tree)) × (length (places tree) + 1 + cut ≡ before + length opened.items)
Told before count tree Stale = ⊥

-- what the whole call answers
abbrev pub Replies : {B I K M N : Type 0} → Sense B I K M → ℕ → ℕ → Where B → Growth B I K M → Kept B I K → Kept B I K → Grown B N → Type 0
Replies w kin limit spot growth old new (Taken released cut opened) =
    Stood w kin limit spot growth old new
    × IsSettled limit record { released = new.released; tree = plain new.tree }
    × (released ≡ length new.released)
    × (opened.items ≡ fresh_spots (places new.tree))
    × (length (places new.tree) + 1 + cut ≡ length (places old.tree) + length opened.items)
Replies w kin limit spot growth old new Stale = (has (at_place spot.index) old.tree ≡ false) × (new ≡ old)
