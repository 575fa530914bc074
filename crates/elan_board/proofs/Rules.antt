-- Each step keeps the rule of the words.
use Rattle.std.proofs.Common.{◌≡◌, ◌≢◌, ℕ, zero, suc, ◌+◌, ◌<◌, ◌≤◌, max, ◌^◌, ◌%◌, List, [], ◌∷◌, ◌++◌, set, slice_index, slice_set, sym, refl, ap, ◌∙◌, subst, ⊎_elim, inl, inr, ◌⊎◌, lt_of_not-le}
use native.Mathlib.Omega.{arith}
use native.Mathlib.Decide.{dec_le}
use mathlib.Core.Option.{some, none, some-ne-none, some-injective}
use lib.ListN.{get_elem?}
use Rattle.atomic_table.specs.Table.{State, Me, Act, keeps, Step, step, Allows, Splits, opening}
use Rattle.atomic_table.proofs.Lists.{at_set, at_snoc, at_longer}
use Rattle.elan_board.specs.declared.words.Look.{Look}
use Rattle.elan_board.specs.Rule.{look, Bounded, KeptAt, Kept, LoadsReleased, LoadsCuts, Tells, Adds}

set_there : (views : List Look) (id : ℕ) (v w : Look) → get_elem? views id ≡ some v → get_elem? (set views id w) id ≡ some w
set_there [] id v w e = absurd (some-ne-none v (sym e))
set_there (x ∷ xs) zero v w e = refl
set_there (x ∷ xs) (suc i) v w e = set_there xs i v w e

abbrev Told : ℕ → List Look → Type 0
Told a views = (id : ℕ) × (v : Look) × (get_elem? views id ≡ some v) × (v.told ≡ a)

-- some seat told the greatest number still, where one seat told no less
witness : (views : List Look) (id : ℕ) (v w : Look) (a j : ℕ) (u : Look) → get_elem? views id ≡ some v → get_elem? views j ≡ some u → u.told ≡ a → v.told ≤ w.told → w.told ≤ a → Told a (set views id w)
witness [] id v w a j u e f t up down = absurd (some-ne-none v (sym e))
witness (x ∷ xs) zero v w a zero u e f t up down =
    let p = ap (λ (y : Look). y.told) (some-injective x v e) in
    let q = ap (λ (y : Look). y.told) (some-injective x u f) in (zero, w, refl, omega (arith, p, q, t, up, down))
witness (x ∷ xs) zero v w a (suc j) u e f t up down = (suc j, u, f, t)
witness (x ∷ xs) (suc i) v w a zero u e f t up down = (zero, u, f, t)
witness (x ∷ xs) (suc i) v w a (suc j) u e f t up down = let r = witness xs i v w a j u e f t up down in (suc r.0, r.1, r.2, r.3)

bounded_set : (views : List Look) (id a a' : ℕ) (w : Look) → ((j : ℕ) (u : Look) → get_elem? views j ≡ some u → Bounded a u) → a ≤ a' → Bounded a' w
    → (j : ℕ) (u : Look) → get_elem? (set views id w) j ≡ some u → Bounded a' u
bounded_set views id a a' w all up mine j u e =
    ⊎_elim (λ (x : (j ≡ id) × (w ≡ u)). subst (Bounded a') x.1 mine) (λ (x : (j ≢ id) × (get_elem? views j ≡ some u)). let b = all j u x.1 in (omega (arith, up, b.0), omega (arith, up, b.1))) (at_set views id j w u e)

-- the word stays
stays : (views : List Look) (id a : ℕ) (v w : Look) → KeptAt a views → get_elem? views id ≡ some v → Bounded a w → v.told ≤ w.told → KeptAt a (set views id w)
stays views id a v w k e mine up = (bounded_set views id a a w k.0 (omega arith) mine, witness views id v w a k.1.0 k.1.1 e k.1.2 k.1.3 up mine.1)

-- the word rises to what the seat told
rises : (views : List Look) (id a a' : ℕ) (v w : Look) → KeptAt a views → get_elem? views id ≡ some v → a ≤ a' → Bounded a' w → w.told ≡ a' → KeptAt a' (set views id w)
rises views id a a' v w k e up mine is = (bounded_set views id a a' w k.0 up mine, (id, w, set_there views id v w e, is))

first_bounded : (id : ℕ) (v : Look) → get_elem? (look 0 0 0 0 0 0 ∷ []) id ≡ some v → Bounded 0 v
first_bounded zero v e = subst (Bounded 0) (some-injective (look 0 0 0 0 0 0) v e) (omega arith, omega arith)
first_bounded (suc i) v e = absurd (some-ne-none v (sym e))

pub opens : Kept (opening (0 ∷ 0 ∷ []) [] (look 0 0 0 0 0 0))
opens = (0, 0, refl, (first_bounded, (0, look 0 0 0 0 0 0, refl, refl)))

pub loads_released : (slots id : ℕ) (me : Me ℕ Look) → Allows Kept slots id me 0 (λ n. n) (LoadsReleased (step slots 0 0 0 none) me)
loads_released slots id me s h len at fits =
    let n : slice_index s.words 0 ≡ h.0 = ap (λ (l : List ℕ). slice_index l 0) h.2 in
    let mine = h.3.0 id me.0 at in
    let w : Look = look (slice_index s.words 0) me.0.cuts me.0.told me.0.added (me.0.released_loads + 1) me.0.cuts_loads in (
      w,
      keeps,
      tt,
      (h.0, h.1, ap (λ (l : List ℕ). slice_set l 0 (slice_index l 0)) h.2, stays s.views id h.0 me.0 w h.3 at (omega (arith, n), mine.1) (omega arith)),
      (omega (arith, n, mine.0), refl),
    )

pub loads_cuts : (slots id : ℕ) (me : Me ℕ Look) → Allows Kept slots id me 1 (λ n. n) (LoadsCuts (step slots 1 0 0 none) me)
loads_cuts slots id me s h len at fits =
    let mine = h.3.0 id me.0 at in
    let w : Look = look me.0.released (max me.0.cuts (slice_index s.words 1)) me.0.told me.0.added me.0.released_loads (me.0.cuts_loads + 1) in (
      w,
      keeps,
      tt,
      (h.0, h.1, ap (λ (l : List ℕ). slice_set l 1 (slice_index l 1)) h.2, stays s.views id h.0 me.0 w h.3 at mine (omega arith)),
      refl,
    )

pub adds : (slots id k : ℕ) (me : Me ℕ Look) → Allows Kept slots id me 1 (λ n. (n + k) % 2 ^ 64) (Adds (step slots 1 k 0 none) me)
adds slots id k me s h len at fits =
    let mine = h.3.0 id me.0 at in
    let w : Look = look me.0.released me.0.cuts me.0.told (me.0.added + k) me.0.released_loads me.0.cuts_loads in (
      w,
      keeps,
      tt,
      (h.0, (h.1 + k) % 2 ^ 64, ap (λ (l : List ℕ). slice_set l 1 ((slice_index l 1 + k) % 2 ^ 64)) h.2, stays s.views id h.0 me.0 w h.3 at mine (omega arith)),
      refl,
    )

tells_at : (views : List Look) (id a k : ℕ) (v w : Look) → KeptAt a views → get_elem? views id ≡ some v → Bounded (max a k) w → w.told ≡ max v.told k → Dec (k ≤ a) → KeptAt (max a k) (set views id w)
tells_at views id a k v w kept e mine is (yes d) =
    let same : a ≡ max a k = omega (arith, d) in
    stays views id (max a k) v w (subst (λ (x : ℕ). KeptAt x views) same kept) e mine (omega (arith, is))
tells_at views id a k v w kept e mine is (no d) =
    let lt = lt_of_not-le d in
    let b = kept.0 id v e in
    rises views id a (max a k) v w kept e (omega arith) mine (omega (arith, is, lt, b.1))

pub tells : (slots id k : ℕ) (me : Me ℕ Look) → Allows Kept slots id me 0 (λ n. max n k) (Tells (step slots 0 k 0 none) me)
tells slots id k me s h len at fits =
    let n : slice_index s.words 0 ≡ h.0 = ap (λ (l : List ℕ). slice_index l 0) h.2 in
    let mine = h.3.0 id me.0 at in
    let w : Look = look (max (slice_index s.words 0) k) me.0.cuts (max me.0.told k) me.0.added me.0.released_loads me.0.cuts_loads in (
      w,
      keeps,
      tt,
      (
        max h.0 k,
        h.1,
        ap (λ (l : List ℕ). slice_set l 0 (max (slice_index l 0) k)) h.2,
        tells_at s.views id h.0 k me.0 w h.3 at (omega (arith, n), omega (arith, mine.1)) refl (dec_le k h.0),
      ),
      (omega (arith, n, mine.0), refl),
    )

pub forks : (id : ℕ) (v : Look) → Splits {S = ℕ} Kept id v v (look v.released v.cuts 0 0 0 0)
forks id v s h at =
    let right : Look = look v.released v.cuts 0 0 0 0 in
    let mine = h.3.0 id v at in
    let k : KeptAt h.0 (set s.views id v) = stays s.views id h.0 v v h.3 at mine (omega arith) in (
      h.0,
      h.1,
      h.2,
      (
        (λ j u e. ⊎_elim (λ x. k.0 j u x) (λ (x : right ≡ u). subst (Bounded h.0) x (mine.0, omega arith)) (at_snoc (set s.views id v) right u j e)),
        (k.1.0, k.1.1, at_longer (set s.views id v) (right ∷ []) k.1.0 k.1.1 k.1.2, k.1.3),
      ),
    )
