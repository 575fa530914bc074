-- What a commit does to a seat.
use Rattle.std.proofs.Common.{◌≡◌, ℕ, ◌+◌, ◌≤◌, ◌⊎◌, ⊎_elim, ap, Result, Ok, Err}
use Rattle.std.specs.Prelude.{MatchResult}
use native.Mathlib.Omega.{arith}
use Rattle.elan_tree.specs.declared.branch.Grown.{Grown}
use Rattle.elan_tree.specs.declared.branch.Grown.TheVariants.{Taken, Stale}
use Rattle.elan_board.specs.declared.words.Look.{Look}
use Rattle.elan_board.specs.declared.seat.Seat.{Seat}
use Rattle.elan_board.specs.Seats.{taken_by, look_of, taken_in, Tells}
use Rattle.elan_workers.specs.Turns.{Counts}

-- how a commit counts
abbrev Counted : {B N E : Type 0} → Result (Grown B N) E → ℕ → ℕ → Type 0
Counted r old new = MatchResult r (λ g. new ≡ old + taken_in g) (λ _. (new ≡ old) ⊎ (new ≡ old + 1))

-- how a commit tells the words
abbrev Told : {B N E : Type 0} → Result (Grown B N) E → Look → Look → Type 0
Told r old new = MatchResult r (λ g. Tells g old new) (λ _. new ≡ old)

-- the loads of a view stay
abbrev SameLoads : Look → Look → Type 0
SameLoads old new = (new.released_loads ≡ old.released_loads) × (new.cuts_loads ≡ old.cuts_loads)

same_loads : (old new : Look) → new ≡ old → SameLoads old new
same_loads old new same = (ap (λ (l : Look). l.released_loads) same, ap (λ (l : Look). l.cuts_loads) same)

module _ {B N E : Type 0} where
  -- a commit counts at most one growth
  at_most_one : (r : Result (Grown B N) E) (old new : ℕ) → Counted r old new → new ≤ old + 1
  at_most_one (Ok (Taken released cut opened)) old new e = omega (arith, e)
  at_most_one (Ok Stale) old new e = omega (arith, e)
  at_most_one (Err x) old new e =
      ⊎_elim (λ (p : new ≡ old). omega (arith, p)) (λ (p : new ≡ old + 1). omega (arith, p)) e

  -- a commit loads no word
  no_load : (r : Result (Grown B N) E) (old new : Look) → Told r old new → SameLoads old new
  no_load (Ok (Taken released cut opened)) old new told = told.no_load
  no_load (Ok Stale) old new same = same_loads old new same
  no_load (Err x) old new same = same_loads old new same

  pub commits : {L : Type 0} (r : Result (Grown B N) E) (old new : Seat L)
      → Counted r (taken_by old) (taken_by new) → Told r (look_of old) (look_of new) → Counts old new
  commits r old new counted told =
      let loads = no_load r (look_of old) (look_of new) told in
      record {
        taken = at_most_one r (taken_by old) (taken_by new) counted;
        released_loads = loads.0;
        cuts_loads = loads.1;
      }
