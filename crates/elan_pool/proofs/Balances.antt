-- Each move keeps the rule of a deque.
use Rattle.std.proofs.Common.{◌≡◌, ◌≢◌, ℕ, zero, suc, ◌+◌, ◌-◌, ◌<◌, ◌≤◌, List, [], ◌∷◌, ◌++◌, set, sym, refl, ap, ◌∙◌, subst, ⊎_elim}
use native.Mathlib.Omega.{arith}
use mathlib.Core.Option.{some, some-ne-none, some-injective}
use lib.ListN.{get_elem?}
use Rattle.boxcar.specs.Table.{Where}
use Rattle.crossbeam_deque.specs.Tasks.{Pushes, Takes, Forks, Merges, Finds, Learns}
use Rattle.crossbeam_deque.proofs.Lists.{at_set, at_snoc}
use Rattle.elan_pool.specs.declared.rule.Tally.{Tally}
use Rattle.elan_pool.specs.Balance.{tally, joined, numbers, weigh, SameSpots, total, Idle, Balanced}

pub weigh-append : (h : ℕ → ℕ) (xs ys : List ℕ) → weigh h (xs ++ ys) ≡ weigh h xs + weigh h ys
weigh-append h [] ys = omega arith
weigh-append h (x ∷ xs) ys = omega (arith, weigh-append h xs ys)

weigh_numbers : {B : Type 0} (h : ℕ → ℕ) (xs ys : List (Where B)) → weigh h (numbers (xs ++ ys)) ≡ weigh h (numbers xs) + weigh h (numbers ys)
weigh_numbers h [] ys = omega arith
weigh_numbers h (x ∷ xs) ys = omega (arith, weigh_numbers h xs ys)

some_is : (u v : Tally) → some u ≡ some v → u ≡ v
some_is u v e = some-injective u v e

-- the total after a change of one pass
total_set : (f : Tally → ℕ) (views : List Tally) (port : ℕ) (v w : Tally) → get_elem? views port ≡ some v → total f (set views port w) + f v ≡ total f views + f w
total_set f [] port v w e = absurd (some-ne-none v (sym e))
total_set f (u ∷ us) zero v w e = let s = ap f (some_is u v e) in omega (arith, s)
total_set f (u ∷ us) (suc k) v w e = omega (arith, total_set f us k v w e)

total-snoc : (f : Tally → ℕ) (views : List Tally) (w : Tally) → total f (views ++ w ∷ []) ≡ total f views + f w
total-snoc f [] w = omega arith
total-snoc f (u ∷ us) w = omega (arith, total-snoc f us w)

within_total : (f : Tally → ℕ) (views : List Tally) (port : ℕ) (v : Tally) → get_elem? views port ≡ some v → f v ≤ total f views
within_total f [] port v e = absurd (some-ne-none v (sym e))
within_total f (u ∷ us) zero v e = let s = ap f (some_is u v e) in omega (arith, s)
within_total f (u ∷ us) (suc k) v e = omega (arith, within_total f us k v e)

abbrev AllIdle : List Tally → Type 0
AllIdle views = (port : ℕ) (v : Tally) → get_elem? views port ≡ some v → Idle v

idle_set : (views : List Tally) (port : ℕ) (w : Tally) → Idle w → AllIdle views → AllIdle (set views port w)
idle_set views port w mine all j u e = ⊎_elim (λ (x : (j ≡ port) × (w ≡ u)). subst Idle x.1 mine) (λ (x : (j ≢ port) × (get_elem? views j ≡ some u)). all j u x.1) (at_set views port j w u e)

idle_snoc : (views : List Tally) (w : Tally) → Idle w → AllIdle views → AllIdle (views ++ w ∷ [])
idle_snoc views w mine all j u e = ⊎_elim (λ x. all j u x) (λ (x : w ≡ u). subst Idle x mine) (at_snoc views w u j e)

-- with no part left, nothing is left of what only those with a part have
nothing : (f : Tally → ℕ) (views : List Tally) → ((v : Tally) → Idle v → v.parts ≡ 0 → f v ≡ 0) → AllIdle views → total (λ v. v.parts) views ≡ 0 → total f views ≡ 0
nothing f [] no_more all e = refl
nothing f (u ∷ us) no_more all e =
    let here = no_more u (all 0 u refl) (omega (arith, e)) in
    let rest = nothing f us no_more (λ j v at. all (suc j) v at) (omega (arith, e)) in omega (arith, here, rest)

alone : (f : Tally → ℕ) (views : List Tally) (port : ℕ) (v : Tally) → get_elem? views port ≡ some v → ((u : Tally) → Idle u → u.parts ≡ 0 → f u ≡ 0) → AllIdle views
    → total (λ u. u.parts) views ≡ v.parts → total f views ≡ f v
alone f [] port v at no_part all e = absurd (some-ne-none v (sym at))
alone f (u ∷ us) zero v at no_part all e =
    let is = some_is u v at in
    let p = ap (λ (x : Tally). x.parts) is in
    let s = ap f is in
    let rest = nothing f us no_part (λ j x a. all (suc j) x a) (omega (arith, e, p)) in omega (arith, s, rest)
alone f (u ∷ us) (suc k) v at no_part all e =
    let some_part = within_total (λ x. x.parts) us k v at in
    let here = no_part u (all 0 u refl) (omega (arith, e, some_part)) in
    let rest = alone f us k v at no_part (λ j x a. all (suc j) x a) (omega (arith, e, some_part)) in omega (arith, here, rest)

pub begins : (B : Type 0) → Balanced {B = B} [] (tally 256 [] [] ∷ [])
begins B = (refl, (λ h. refl), λ port v at. idle_snoc [] (tally 256 [] []) (λ (e : 256 ≡ 0). absurd (omega (arith, e))) (λ j u e. absurd (some-ne-none u (sym e))) port v at)

pub puts : {B : Type 0} (port : ℕ) (v : Tally) (xs : List (Where B)) → 0 < v.parts → Pushes (λ items views. Balanced items views) port v xs (λ w. w ≡ tally v.parts (v.put ++ numbers xs) v.taken)
puts port v xs some_part items views b at =
    let w : Tally = tally v.parts (v.put ++ numbers xs) v.taken in (
      w,
      (
        (let s = total_set (λ u. u.parts) views port v w at in let p = b.0 in omega (arith, s, p)),
        (λ h.
            let s = total_set (λ u. weigh h u.put) views port v w at in
            let t = total_set (λ u. weigh h u.taken) views port v w at in
            let p = b.1 h in
            omega (arith, s, t, p, weigh-append h v.put (numbers xs), weigh_numbers h items xs)),
        idle_set views port w (λ (e : v.parts ≡ 0). absurd (omega (arith, some_part, e))) b.2,
      ),
      refl,
    )

pub takes : {B : Type 0} (port : ℕ) (v : Tally) → 0 < v.parts → Takes {T = Where B} (λ items views. Balanced items views) port v 1 (λ xs w. w ≡ tally v.parts v.put (v.taken ++ numbers xs))
takes port v some_part xs items views _ _ b at =
    let w : Tally = tally v.parts v.put (v.taken ++ numbers xs) in (
      w,
      (
        (let s = total_set (λ u. u.parts) views port v w at in let p = b.0 in omega (arith, s, p)),
        (λ h.
            let s = total_set (λ u. weigh h u.put) views port v w at in
            let t = total_set (λ u. weigh h u.taken) views port v w at in
            let p = b.1 h in
            omega (arith, s, t, p, weigh-append h v.taken (numbers xs), weigh_numbers h xs items)),
        idle_set views port w (λ (e : v.parts ≡ 0). absurd (omega (arith, some_part, e))) b.2,
      ),
      refl,
    )

pub forks : {B : Type 0} (port : ℕ) (v : Tally) → 1 < v.parts → Forks {T = Where B} (λ items views. Balanced items views) port v (tally (v.parts - 1) v.put v.taken) (tally 1 [] [])
forks port v parts items views b at =
    let left : Tally = tally (v.parts - 1) v.put v.taken in
    let right : Tally = tally 1 [] [] in
    let vs : List Tally = set views port left in (
      (let s = total_set (λ u. u.parts) views port v left at in let t = total-snoc (λ u. u.parts) vs right in let p = b.0 in omega (arith, s, t, p, parts)),
      (λ h.
          let s = total_set (λ u. weigh h u.put) views port v left at in
          let t = total_set (λ u. weigh h u.taken) views port v left at in
          let p = b.1 h in
          omega (arith, s, t, p, total-snoc (λ u. weigh h u.put) vs right, total-snoc (λ u. weigh h u.taken) vs right)),
      idle_snoc vs right (λ (e : 1 ≡ 0). absurd (omega (arith, e))) (idle_set views port left (λ (e : v.parts - 1 ≡ 0). absurd (omega (arith, parts, e))) b.2),
    )

pub merges : {B : Type 0} (port : ℕ) (v : Tally) (other : ℕ) (u : Tally) → 0 < v.parts
    → Merges {T = Where B} (λ items views. Balanced items views) port v other u (joined v u) (tally 0 [] [])
merges port v other u some_part items views b at two at' =
    let both : Tally = joined v u in
    let spent : Tally = tally 0 [] [] in
    let vs : List Tally = set views port both in (
      (let s = total_set (λ x. x.parts) views port v both at in let t = total_set (λ x. x.parts) vs other u spent at' in let p = b.0 in omega (arith, s, t, p)),
      (λ h.
          let s = total_set (λ x. weigh h x.put) views port v both at in
          let t = total_set (λ x. weigh h x.taken) views port v both at in
          let s' = total_set (λ x. weigh h x.put) vs other u spent at' in
          let t' = total_set (λ x. weigh h x.taken) vs other u spent at' in
          let p = b.1 h in
          omega (arith, s, t, s', t', p, weigh-append h v.put u.put, weigh-append h v.taken u.taken)),
      idle_set vs other spent (λ _. (refl, refl)) (idle_set views port both (λ (e : v.parts + u.parts ≡ 0). absurd (omega (arith, some_part, e))) b.2),
    )

pub drained : (B : Type 0) (port : ℕ) (v : Tally) → v.parts ≡ 256 → Finds {T = Where B} (λ items views. Balanced items views) port v (SameSpots v.put v.taken)
drained B port v whole views b at h =
    let e : total (λ u. u.parts) views ≡ v.parts = b.0 ∙ sym whole in
    let s = alone (λ u. weigh h u.put) views port v at (λ u idle e. ap (weigh h) (idle e).0) b.2 e in
    let t = alone (λ u. weigh h u.taken) views port v at (λ u idle e. ap (weigh h) (idle e).1) b.2 e in
    let p = b.1 h in omega (arith, s, t, p)

pub whole : {B : Type 0} (port : ℕ) (v : Tally) → Forks {T = Where B} (λ items views. Balanced items views) port v (tally 0 [] []) v
whole port v items views b at =
    let none : Tally = tally 0 [] [] in
    let vs : List Tally = set views port none in (
      (let s = total_set (λ u. u.parts) views port v none at in let t = total-snoc (λ u. u.parts) vs v in let p = b.0 in omega (arith, s, t, p)),
      (λ h.
          let s = total_set (λ u. weigh h u.put) views port v none at in
          let t = total_set (λ u. weigh h u.taken) views port v none at in
          let p = b.1 h in
          omega (arith, s, t, p, total-snoc (λ u. weigh h u.put) vs v, total-snoc (λ u. weigh h u.taken) vs v)),
      idle_snoc vs v (b.2 port v at) (idle_set views port none (λ _. (refl, refl)) b.2),
    )

pub most : (B : Type 0) (port : ℕ) (v : Tally) → Learns {T = Where B} (λ items views. Balanced items views) port v (λ items. v.parts ≤ 256)
most B port v items views b at = let w = within_total (λ u. u.parts) views port v at in let p = b.0 in omega (arith, w, p)

-- one spot more was taken, and is left over
pub one_more : {B : Type 0} (h : ℕ → ℕ) (v w : Tally) (taken : List ℕ) (s : Where B) (left all : List (Where B)) (old : ℕ)
    → w ≡ tally v.parts v.put (v.taken ++ s.index ∷ []) → all ≡ left ++ s ∷ []
    → weigh h v.taken + old ≡ weigh h taken + weigh h (numbers left)
    → weigh h w.taken + old ≡ weigh h taken + weigh h (numbers all)
one_more h v w taken s left all old is more e =
    let a : weigh h w.taken ≡ weigh h (v.taken ++ s.index ∷ []) = ap (λ (u : Tally). weigh h u.taken) is in
    let b = weigh-append h v.taken (s.index ∷ []) in
    let c : weigh h (numbers all) ≡ weigh h (numbers (left ++ s ∷ [])) = ap (λ l. weigh h (numbers l)) more in
    let d = weigh_numbers h left (s ∷ []) in omega (arith, a, b, c, d, e)

-- nothing more is left over
pub all_taken : (h : ℕ → ℕ) (v first : Tally) (old left : List ℕ) → v.put ≡ first.put → SameSpots v.put v.taken
    → weigh h v.taken + weigh h old ≡ weigh h first.taken + weigh h left
    → weigh h old + weigh h first.put ≡ weigh h first.taken + weigh h left
all_taken h v first old left put same e = let p = same h in let q : weigh h v.put ≡ weigh h first.put = ap (weigh h) put in omega (arith, p, q, e)
