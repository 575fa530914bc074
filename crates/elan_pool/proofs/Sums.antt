-- Amounts of docks, sides and seats, added up.
use Rattle.std.proofs.Common.{◌≡◌, ◌≢◌, ℕ, zero, suc, ◌+◌, ◌*◌, ◌<◌, ◌≤◌, List, [], ◌∷◌, ◌++◌, Option, Some, None, length, length-append, set, sym, refl, ap, subst, ◌∙◌, Vec, Global}
use native.Mathlib.Omega.{arith}
use Rattle.std.specs.List.{slice_get}
use Rattle.std.proofs.lemmas.Option.{none-some}
use Rattle.elan_pool.specs.declared.rule.Tally.{Tally}
use Rattle.elan_pool.specs.declared.dock.Dock.{Dock}
use Rattle.elan_pool.specs.declared.side.Side.{Side}
use Rattle.elan_pool.specs.declared.seat.PoolSeat.{PoolSeat}
use Rattle.elan_pool.specs.declared.pool_name.PoolName.{Ghosts}
use Rattle.elan_pool.specs.Balance.{weigh}
use Rattle.elan_pool.specs.Seats.{put_of, all_put}
use Rattle.elan_pool.specs.Making.{Each}
use Rattle.elan_pool.specs.Closing.{IsHome, IsBack, slot_sum, dock_sum, side_sum, row_sum, seat_sum}
use Rattle.elan_pool.proofs.Balances.{weigh-append}
use Rattle.elan_pool.proofs.Places.{some_is}

module _ {B N P : Type 0} {g : Ghosts P} where
  pub dock_sum-snoc : (f : Tally → ℕ) (ds : List (Option (Dock B N P g))) (d : Option (Dock B N P g)) → dock_sum f (ds ++ d ∷ []) ≡ dock_sum f ds + slot_sum f d
  dock_sum-snoc f [] d = omega arith
  dock_sum-snoc f (e ∷ es) d = omega (arith, dock_sum-snoc f es d)

  pub side_sum-snoc : (f : Tally → ℕ) (ss : List (Side B N P g)) (s : Side B N P g) → side_sum f (ss ++ s ∷ []) ≡ side_sum f ss + side_sum f (s ∷ [])
  side_sum-snoc f [] s = omega arith
  side_sum-snoc f (e ∷ es) s = omega (arith, side_sum-snoc f es s)

  pub row_sum-snoc : (f : Tally → ℕ) (rs : List (Vec (Side B N P g) Global)) (r : Vec (Side B N P g) Global) → row_sum f (rs ++ r ∷ []) ≡ row_sum f rs + side_sum f r.items
  row_sum-snoc f [] r = omega arith
  row_sum-snoc f (e ∷ es) r = omega (arith, row_sum-snoc f es r)

  pub seat_sum-snoc : (f : Tally → ℕ) (ss : List (PoolSeat B N P g)) (s : PoolSeat B N P g) → seat_sum f (ss ++ s ∷ []) ≡ seat_sum f ss + seat_sum f (s ∷ [])
  seat_sum-snoc f [] s = omega arith
  seat_sum-snoc f (e ∷ es) s = omega (arith, seat_sum-snoc f es s)

  pub dock_sum-set : (f : Tally → ℕ) (ds : List (Option (Dock B N P g))) (i : ℕ) (old new : Option (Dock B N P g)) → slice_get ds i ≡ Some old
      → dock_sum f (set ds i new) + slot_sum f old ≡ dock_sum f ds + slot_sum f new
  dock_sum-set f [] i old new e = absurd (none-some old e)
  dock_sum-set f (d ∷ ds) zero old new e = let s = ap (slot_sum f) (some_is d old e) in omega (arith, s)
  dock_sum-set f (d ∷ ds) (suc i) old new e = omega (arith, dock_sum-set f ds i old new e)

  -- a dock counts for one
  one_most : (d : Option (Dock B N P g)) → slot_sum (λ v. 1) d ≤ 1
  one_most None = omega arith
  one_most (Some d) = omega arith

  ones_most : (ds : List (Option (Dock B N P g))) → dock_sum (λ v. 1) ds ≤ length ds
  ones_most [] = omega arith
  ones_most (d ∷ ds) = omega (arith, one_most d, ones_most ds)

  is_there : (ds : List (Option (Dock B N P g))) (at : ℕ) (x : Option (Dock B N P g)) → dock_sum (λ v. 1) ds ≡ length ds → slice_get ds at ≡ Some x → slot_sum (λ v. 1) x ≡ 1
  is_there [] at x all e = absurd (none-some x e)
  is_there (d ∷ ds) zero x all e = let s = ap (slot_sum (λ v. 1)) (some_is d x e) in omega (arith, s, all, one_most d, ones_most ds)
  is_there (d ∷ ds) (suc at) x all e = is_there ds at x (omega (arith, all, one_most d, ones_most ds)) e

  home_back : (at : ℕ) (x : Option (Dock B N P g)) → slot_sum (λ v. 1) x ≡ 1 → IsHome at x → IsBack at x
  home_back at None there home = absurd (omega (arith, there))
  home_back at (Some d) there home = home

  -- where there are as many docks as places, each is back
  pub all_back : (ds : List (Option (Dock B N P g))) → Each IsHome ds → dock_sum (λ v. 1) ds ≡ length ds → Each IsBack ds
  all_back ds home all at x e = home_back at x (is_there ds at x all e) (home at x e)

  part_most : (d : Option (Dock B N P g)) → slot_sum (λ v. v.parts) d ≤ 256
  part_most None = omega arith
  part_most (Some d) = d.most

  parts_most : (ds : List (Option (Dock B N P g))) → dock_sum (λ v. v.parts) ds ≤ 256 * length ds
  parts_most [] = omega arith
  parts_most (d ∷ ds) = omega (arith, part_most d, parts_most ds)

  -- where the docks have all parts of all deques, the last one has all parts of its own
  pub last_whole : (all ds : List (Option (Dock B N P g))) (d : Option (Dock B N P g)) → dock_sum (λ v. v.parts) all ≡ 256 * length all → all ≡ ds ++ d ∷ []
      → (slot_sum (λ v. v.parts) d ≡ 256) × (dock_sum (λ v. v.parts) ds ≡ 256 * length ds)
  last_whole all ds d whole is =
      let a : dock_sum (λ v. v.parts) all ≡ dock_sum (λ v. v.parts) (ds ++ d ∷ []) = ap (dock_sum (λ v. v.parts)) is in
      let b : length all ≡ length (ds ++ d ∷ []) = ap length is in
      let m = part_most d in
      let n = parts_most ds in (
        omega (arith, a, b, m, n, whole, dock_sum-snoc (λ v. v.parts) ds d, length-append ds (d ∷ [])),
        omega (arith, a, b, m, n, whole, dock_sum-snoc (λ v. v.parts) ds d, length-append ds (d ∷ [])),
      )

  side_parts : (ss : List (Side B N P g)) → side_sum (λ v. v.parts) ss ≡ length ss
  side_parts [] = refl
  side_parts (s ∷ ss) = let p = s.part in omega (arith, p, side_parts ss)

  side_puts : (h : ℕ → ℕ) (ss : List (Side B N P g)) → side_sum (λ v. weigh h v.put) ss ≡ 0
  side_puts h [] = refl
  side_puts h (s ∷ ss) = let p = ap (weigh h) s.puts in omega (arith, p, side_puts h ss)

  -- the seats have all parts of all deques
  pub seat_parts : (ss : List (PoolSeat B N P g)) → seat_sum (λ v. v.parts) ss ≡ 256 * length ss
  seat_parts [] = refl
  seat_parts (s ∷ ss) = let p = s.parts in let len = s.sides.ok in omega (arith, p, len, side_parts s.sides.items, seat_parts ss)

  pub seat_puts : (h : ℕ → ℕ) (ss : List (PoolSeat B N P g)) → seat_sum (λ v. weigh h v.put) ss ≡ weigh h (all_put ss)
  seat_puts h [] = refl
  seat_puts h (s ∷ ss) = omega (arith, side_puts h s.sides.items, seat_puts h ss, weigh-append h (put_of s) (all_put ss))
