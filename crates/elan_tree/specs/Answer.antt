-- What a tree answers to a growth.
use Rattle.std.specs.Prelude.{◌≡◌, ℕ, ◌+◌, ◌-◌, ◌^◌, min, List, true, false, length, ◌⊎◌}
use Rattle.boxcar.specs.Table.{Where}
use Rattle.elan_tree.specs.Sense.{Sense}
use Rattle.elan_tree.specs.Tree.{Tree, over}
use Rattle.elan_tree.specs.Places.{places, has, put, numbered}
use Rattle.elan_tree.specs.Planting.{Planted}
use Rattle.elan_tree.specs.Moves.{Step, Star}
use Rattle.elan_tree.specs.Normal.{NoGrow, IsSettled}
use Rattle.elan_tree.specs.Standing.{Standing, state, StepOf}
use Rattle.elan_tree.specs.Marks.{Place, at_place, seen, plain, IsFresh, fresh_spots}
use Rattle.elan_tree.specs.Settling.{Makes}
use Rattle.elan_tree.specs.declared.branch.Growth.{Growth}
use Rattle.elan_tree.specs.declared.branch.Grown.{Grown}
use Rattle.elan_tree.specs.declared.branch.Grown.TheVariants.{Taken, Stale}

-- a spot names this branch
abbrev pub Names : {B : Type 0} → B → Where B → Type 0
Names b s = s.value ≡ b

-- The growth stands at the leftmost open place of the spot's number, and steps other than growing lead on from there.
pub record Grew {B I K M : Type 0} (w : Sense B I K M) (spot : Where B) (growth : Growth B I K M) (old new : Standing B I K) : Type 0 where
  pub was_open : has (numbered spot.index) old.tree ≡ true
  pub planted : Tree I (Where B) K
  pub of_growth : Planted Names growth planted
  pub steps : Star (StepOf w old) record { released = old.released; tree = put (numbered spot.index) planted old.tree } (state new)
  pub grown : new.grown ≡ min (old.grown + 1) (2 ^ 64 - 1)

-- The same with a mark on each open place: the places of the growth and of resumed continuations are new, all others are not.
-- `opened` lists the spots of the new places that are left at the end, in tree order.
pub record Opens {B I K M : Type 0} (w : Sense B I K M) (spot : Where B) (growth : Growth B I K M) (old new : Standing B I K) (opened : List (Where B)) : Type 0 where
  pub planted : Tree I (Place B) K
  pub of_growth : Planted IsFresh growth planted
  pub ending : Tree I (Place B) K
  pub steps : Star (Step NoGrow (Makes w (w.kin old.root.value)) old.limit)
      record { released = old.released; tree = put (at_place spot.index) planted (over seen old.tree) }
      record { released = new.released; tree = ending }
  pub same : plain ending ≡ new.tree
  pub listed : opened ≡ fresh_spots (places ending)

-- The growth stands in a settled tree, and what is told of it is exact.
-- Open after = open before - the spot's own place - the other places that went + the places of this call that are still open.
pub record Took {B I K M : Type 0} (w : Sense B I K M) (spot : Where B) (growth : Growth B I K M) (old new : Standing B I K) (released cut : ℕ) (opened : List (Where B)) : Type 0 where
  pub grew : Grew w spot growth old new
  pub settled : IsSettled new.limit (state new)
  pub released_in_all : released ≡ length new.released
  pub opens : Opens w spot growth old new opened
  pub open_after : length (places new.tree) + 1 + cut ≡ length (places old.tree) + length opened

-- `Taken` tells the number of released items, how many other places went, and which places of this call are still open, in tree order.
-- `Stale` comes where no place of the spot's number is open, and nothing changes.
abbrev pub Answers : {B I K M N : Type 0} → Sense B I K M → Where B → Growth B I K M → Standing B I K → Standing B I K → Grown B N → Type 0
Answers w spot growth old new (Taken released cut opened) = Took w spot growth old new released cut opened.items
Answers w spot growth old new Stale = (has (numbered spot.index) old.tree ≡ false) × (new ≡ old)

-- Without memory either nothing has changed, or the growth stands and the tree is on the way to a settled one.
abbrev pub Refused : {B I K M : Type 0} → Sense B I K M → Where B → Growth B I K M → Standing B I K → Standing B I K → Type 0
Refused w spot growth old new = (new ≡ old) ⊎ Grew w spot growth old new

-- the root and the limit stay
pub record Same {B I K : Type 0} (old new : Standing B I K) : Type 0 where
  pub root : new.root ≡ old.root
  pub limit : new.limit ≡ old.limit
