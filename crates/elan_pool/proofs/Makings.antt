-- How docks, rows and seats come to be while a pool is made.
use Rattle.std.proofs.Common.{◌≡◌, ℕ, ◌+◌, ◌-◌, ◌<◌, ◌≤◌, Bool, true, false, List, [], ◌∷◌, ◌++◌, Some, length, length-append, map, set, sym, refl, ap, subst, ◌∙◌, if◌then◌else◌}
use native.Mathlib.Omega.{arith}
use Rattle.std.proofs.lemmas.List.{length-map, append-nil}
use Rattle.std.specs.List.{slice_get, slice_index_or}
use Rattle.std.proofs.lemmas.Option.{slice_get_read}
use Rattle.crossbeam_deque.specs.Handles.{worker_view}
use Rattle.elan_pool.specs.declared.rule.Tally.{Tally}
use Rattle.elan_pool.specs.declared.dock.Dock.{Dock}
use Rattle.elan_pool.specs.declared.side.Side.{Side}
use Rattle.elan_pool.specs.declared.pool_name.PoolName.{Ghosts}
use Rattle.elan_pool.specs.Balance.{tally}
use Rattle.elan_pool.specs.Sides.{number_at, taken_at, missed_at}
use Rattle.elan_pool.specs.Making.{Each, IsLending, IsNewSide}
use Rattle.elan_pool.proofs.Places.{each_none, each_snoc, each_set, seam, shorter, some_at, nothing_at}

module _ {A D K : Type 0} (f : A → D) (F : ℕ → K → Type 0) (ds : List D) where
  -- the first elements are left, and there is one of the new list for each of the others
  abbrev Halfway : List A → List K → Type 0
  Halfway xs ks = ((rest : List D) × (ds ≡ map f xs ++ rest)) × (length ks + length xs ≡ length ds) × (length xs ≤ 64) × Each F ks

  pub halfway_begins : (xs : List A) (ks : List K) → map f xs ≡ ds → length xs ≤ 64 → ks ≡ [] → Halfway xs ks
  halfway_begins xs ks is few none =
      let a : length ds ≡ length xs = ap length (sym is) ∙ length-map xs f in
      let b : length ks ≡ 0 = ap length none in (
        ([], sym is ∙ sym (append-nil (map f xs))),
        omega (arith, a, b),
        few,
        subst (Each F) (sym none) (each_none F),
      )

  pub halfway_steps : (old xs : List A) (x : A) (ks more : List K) (k : K) → Halfway old ks → old ≡ xs ++ x ∷ [] → more ≡ ks ++ k ∷ [] → (length xs + (length ks + 1) ≡ length ds → F (length ks) k) → Halfway xs more
  halfway_steps old xs x ks more k half is grown fact =
      let a : length old ≡ length (xs ++ x ∷ []) = ap length is in
      let b = length-append xs (x ∷ []) in
      let c : length more ≡ length (ks ++ k ∷ []) = ap length grown in
      let d = length-append ks (k ∷ []) in
      let e = half.1 in
      let few = half.2 in (
        (f x ∷ half.0.0, half.0.1 ∙ (ap (λ l. map f l ++ half.0.0) is ∙ shorter f xs x half.0.0)),
        omega (arith, a, b, c, d, e),
        omega (arith, a, b, few),
        subst (Each F) (sym grown) (each_snoc F ks k half.3 (fact (omega (arith, a, b, e)))),
      )

  pub halfway_seam : (old xs : List A) (x : A) (ks : List K) → Halfway old ks → old ≡ xs ++ x ∷ [] → slice_get ds (length xs) ≡ Some (f x)
  halfway_seam old xs x ks half is = seam f ds xs x half.0.0 (half.0.1 ∙ ap (λ l. map f l ++ half.0.0) is)

module _ {B N P : Type 0} {g : Ghosts P} where
  -- the dock that lends next
  pub next : (docks : List (Dock B N P g)) (count lent done : ℕ) (d : Dock B N P g) → length docks ≡ count → done < count → Each (IsLending count lent done) docks
      → d ≡ slice_index_or docks (count - 1 - done) d → (d.number ≡ done) × (worker_view d.lane ≡ tally (256 - lent) [] []) × (64 ≤ d.room)
  next docks count lent done d len lt each is =
      let at = each (count - 1 - done) d (slice_get_read docks (length docks) (count - 1 - done) d refl (omega (arith, len, lt)) is) in
      let number = at.0 in (omega (arith, number, lt), at.1 (omega (arith, lt)), at.3)

  -- the same docks, once it has lent
  pub lends : (docks : List (Dock B N P g)) (count lent done : ℕ) (d e : Dock B N P g) → length docks ≡ count → done < count → Each (IsLending count lent done) docks
      → d ≡ slice_index_or docks (count - 1 - done) d → (e.number ≡ d.number) × (e.room ≡ d.room)
      → worker_view e.lane ≡ tally ((worker_view d.lane).parts - 1) (worker_view d.lane).put (worker_view d.lane).taken
      → Each (IsLending count lent (done + 1)) (set docks (count - 1 - done) e)
  lends docks count lent done d e len lt each is same left =
      let number = same.0 in
      let at = next docks count lent done d len lt each is in
      let n = at.0 in
      let parts : (256 - lent) - 1 ≡ 256 - (lent + 1) = omega arith in
      let now : worker_view e.lane ≡ tally (256 - (lent + 1)) [] [] =
      left ∙ (ap (λ (v : Tally). tally (v.parts - 1) v.put v.taken) at.1 ∙ ap (λ (k : ℕ). tally k [] []) parts) in
      each_set (IsLending count lent done) (IsLending count lent (done + 1)) docks (count - 1 - done) e each
      (λ j y away h. (h.0, (λ early. h.1 (omega (arith, early))), (λ late. h.2 (omega (arith, late, away))), h.3))
      (omega (arith, number, n, lt), (λ early. absurd (omega (arith, early, lt))), (λ late. now), (let r = at.2 in let q = same.1 in omega (arith, r, q)))

  pub numbered : (row : List (Side B N P g)) → Each IsNewSide row → (d : ℕ) → d < length row → number_at (slice_get row d) ≡ Some d
  numbered row each d lt = let s = some_at row d lt in ap number_at s.1 ∙ ap Some (each d s.0 s.1).0

  pub untouched : (row : List (Side B N P g)) → Each IsNewSide row → (d : ℕ) → taken_at (slice_get row d) ≡ []
  untouched row each = nothing_at taken_at [] IsNewSide row each refl (λ i s h. ap (λ (v : Tally). v.taken) h.1)

  pub unmissed : (row : List (Side B N P g)) → Each IsNewSide row → (d : ℕ) → missed_at (slice_get row d) ≡ 0
  unmissed row each = nothing_at missed_at 0 IsNewSide row each refl (λ i s h. h.2)

pub either_nothing : (b : Bool) (xs ys : List ℕ) → xs ≡ [] → ys ≡ [] → (if b then xs else ys) ≡ []
either_nothing true xs ys x y = x
either_nothing false xs ys x y = y
