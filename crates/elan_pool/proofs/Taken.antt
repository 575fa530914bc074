-- What seats took, deque by deque, amounts to what their docks and sides know.
use Rattle.std.proofs.Common.{◌≡◌, ◌≢◌, ℕ, zero, suc, ◌+◌, ◌<◌, ◌≤◌, Bool, true, false, List, [], ◌∷◌, ◌++◌, ◌==◌, if◌then◌else◌, length, refl, ap, ◌∙◌, ⊎_elim}
use native.Mathlib.Omega.{arith}
use Rattle.std.specs.List.{slice_get}
use Rattle.std.proofs.lemmas.Bool.Decides.{eqb_tells}
use Rattle.crossbeam_deque.specs.Handles.{worker_view}
use Rattle.elan_pool.specs.declared.side.Side.{Side}
use Rattle.elan_pool.specs.declared.seat.PoolSeat.{PoolSeat}
use Rattle.elan_pool.specs.declared.pool_name.PoolName.{Ghosts}
use Rattle.elan_pool.specs.Balance.{weigh}
use Rattle.elan_pool.specs.Sides.{taken_at}
use Rattle.elan_pool.specs.Seats.{count_of, taken_of, taken_below, taken_by, all_taken}
use Rattle.elan_pool.specs.Closing.{side_sum, seat_sum}
use Rattle.elan_pool.proofs.Balances.{weigh-append}

-- an amount at each of the first places, added up
abbrev below : (ℕ → ℕ) → ℕ → ℕ
below f zero = 0
below f (suc n) = below f n + f n

below-suc : (f : ℕ → ℕ) (n : ℕ) → below f (suc n) ≡ f 0 + below (λ d. f (suc d)) n
below-suc f zero = omega arith
below-suc f (suc n) = omega (arith, below-suc f n)

module _ {B N P : Type 0} {g : Ghosts P} where
  along : (h : ℕ → ℕ) (ss : List (Side B N P g)) → below (λ d. weigh h (taken_at (slice_get ss d))) (length ss) ≡ side_sum (λ v. weigh h v.taken) ss
  along h [] = refl
  along h (s ∷ ss) = omega (arith, below-suc (λ d. weigh h (taken_at (slice_get (s ∷ ss) d))) (length ss), along h ss)

  at_own : (s : PoolSeat B N P g) (d : ℕ) → d ≡ s.dock.number → taken_of s d ≡ (worker_view s.dock.lane).taken
  at_own s d is =
      ⊎_elim (λ (x : ((d == s.dock.number) ≡ true) × (d ≡ s.dock.number)). ap (λ (b : Bool). if b then (worker_view s.dock.lane).taken else taken_at (slice_get s.sides.items d)) x.0)
      (λ (x : ((d == s.dock.number) ≡ false) × (d ≢ s.dock.number)). absurd (x.1 is)) (eqb_tells d s.dock.number)

  at_other : (s : PoolSeat B N P g) (d : ℕ) → d ≢ s.dock.number → taken_of s d ≡ taken_at (slice_get s.sides.items d)
  at_other s d ne =
      ⊎_elim (λ (x : ((d == s.dock.number) ≡ true) × (d ≡ s.dock.number)). absurd (ne x.1))
      (λ (x : ((d == s.dock.number) ≡ false) × (d ≢ s.dock.number)). ap (λ (b : Bool). if b then (worker_view s.dock.lane).taken else taken_at (slice_get s.sides.items d)) x.0)
      (eqb_tells d s.dock.number)

  before : (h : ℕ → ℕ) (s : PoolSeat B N P g) (n : ℕ) → n ≤ s.dock.number → weigh h (taken_below s n) ≡ below (λ d. weigh h (taken_at (slice_get s.sides.items d))) n
  before h s zero le = refl
  before h s (suc n) le =
      let e = ap (weigh h) (at_other s n (λ is. absurd (omega (arith, is, le)))) in
      let i = before h s n (omega (arith, le)) in omega (arith, e, i, weigh-append h (taken_below s n) (taken_of s n))

  after : (h : ℕ → ℕ) (s : PoolSeat B N P g) (n : ℕ) → s.dock.number < n
      → weigh h (taken_below s n) ≡ below (λ d. weigh h (taken_at (slice_get s.sides.items d))) n + weigh h (worker_view s.dock.lane).taken
  after h s zero lt = absurd (omega (arith, lt))
  after h s (suc n) lt =
      ⊎_elim
      (λ (x : ((n == s.dock.number) ≡ true) × (n ≡ s.dock.number)).
      let is = x.1 in
      let e = ap (weigh h) (at_own s n is) in
      let i = before h s n (omega (arith, is)) in
      let z = ap (λ d. weigh h (taken_at (slice_get s.sides.items d))) is ∙ ap (weigh h) s.own_side in
      omega (arith, e, i, z, weigh-append h (taken_below s n) (taken_of s n)))
      (λ (x : ((n == s.dock.number) ≡ false) × (n ≢ s.dock.number)).
      let ne = x.1 in
      let e = ap (weigh h) (at_other s n ne) in
      let i = after h s n (omega (arith, lt, ne)) in omega (arith, e, i, weigh-append h (taken_below s n) (taken_of s n)))
      (eqb_tells n s.dock.number)

  seat_takes : (h : ℕ → ℕ) (s : PoolSeat B N P g) → weigh h (taken_by s) ≡ weigh h (worker_view s.dock.lane).taken + side_sum (λ v. weigh h v.taken) s.sides.items
  seat_takes h s =
      let inside = s.inside in
      let len = s.sides.ok.0 in omega (arith, after h s (length s.sides.items) (omega (arith, inside, len)), along h s.sides.items)

  pub seats_take : (h : ℕ → ℕ) (ss : List (PoolSeat B N P g)) → seat_sum (λ v. weigh h v.taken) ss ≡ weigh h (all_taken ss)
  seats_take h [] = refl
  seats_take h (s ∷ ss) = omega (arith, seat_takes h s, seats_take h ss, weigh-append h (taken_by s) (all_taken ss))
