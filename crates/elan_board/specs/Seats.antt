-- What clauses see of a seat, and what an answer of a commit adds to it.
use Rattle.std.specs.Prelude.{◌≡◌, ℕ, ◌+◌, ◌≤◌, max}
use Rattle.elan_tree.specs.declared.branch.Grown.{Grown}
use Rattle.elan_tree.specs.declared.branch.Grown.TheVariants.{Taken, Stale}
use Rattle.elan_board.specs.declared.words.Look.{Look}
use Rattle.elan_board.specs.declared.seat.Seat.{Seat}
use Rattle.elan_board.specs.Rule.{look}

-- how many growths that this seat committed stand
abbrev pub taken_by : {L : Type 0} → Seat L → ℕ
taken_by s = s.share.amount

-- what the seat was shown of the words, and what it told
abbrev pub look_of : {L : Type 0} → Seat L → Look
look_of s = s.watch.mark.me.0

-- nothing was committed, shown or told
abbrev pub IsNew : {L : Type 0} → Seat L → Type 0
IsNew s = (taken_by s ≡ 0) × (look_of s ≡ look 0 0 0 0 0 0)

-- how many growths an answer counts
abbrev pub taken_in : {B N : Type 0} → Grown B N → ℕ
taken_in (Taken released cut opened) = 1
taken_in Stale = 0

-- one number of released items and one number of cuts are told, and nothing is loaded
pub record Tell (released cut : ℕ) (old new : Look) : Type 0 where
  pub told : new.told ≡ max old.told released
  pub added : new.added ≡ old.added + cut
  pub shown : old.released ≤ new.released
  pub cuts : new.cuts ≡ old.cuts
  pub no_load : (new.released_loads ≡ old.released_loads) × (new.cuts_loads ≡ old.cuts_loads)

-- the numbers of an answer are told where the growth was taken, and else nothing
abbrev pub Tells : {B N : Type 0} → Grown B N → Look → Look → Type 0
Tells (Taken released cut opened) old new = Tell released cut old new
Tells Stale old new = new ≡ old

-- one load of each word, and nothing is told
pub record Loads (old new : Look) : Type 0 where
  pub released_loads : new.released_loads ≡ old.released_loads + 1
  pub cuts_loads : new.cuts_loads ≡ old.cuts_loads + 1
  pub told : new.told ≡ old.told
  pub added : new.added ≡ old.added
