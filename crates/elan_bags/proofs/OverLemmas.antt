-- Each term as often as it is there so many times.
use Rattle.std.proofs.Common.{◌≡◌, refl, sym, ap, ◌∙◌, subst, ◌⊎◌, inl, inr, ⊎_elim, ℕ, ◌+◌, ◌*◌, ◌/◌, ◌<◌, ◌≤◌, ◌==◌, Bool, true, false, cond, eqb-true, eq-eqb, List, [], ◌∷◌, ◌++◌, append-nil, length, get_or, arith}
use Rattle.std.proofs.lemmas.Bool.{cases_lt}
use Rattle.std.proofs.lemmas.Nat.{div_below, le-div}
use Rattle.std.specs.declared.cmp.Ordering.TheVariants.{Less}
use Rattle.boxcar.specs.Table.{Where}
use Rattle.elan_terms.specs.declared.tree.Term.{Term}
use Rattle.elan_terms.specs.Term.{order, same}
use Rattle.elan_terms.specs.Ascending.{NotAfter, Ascends}
use Rattle.elan_terms.proofs.Lists.{Pairs, pairs_of}
use Rattle.elan_terms.proofs.OrderLemmas.{same-equal, equal-same}
use Rattle.elan_terms.proofs.Sorting.{not_true}
use Rattle.elan_laws.specs.Parts.{SomeOf, none, taken, left, times}
use Rattle.elan_table.specs.Rows.{terms}
use Rattle.elan_bags.specs.Bags.{IsOver}
use Rattle.elan_bags.specs.Cuts.{counted}
use Rattle.elan_bags.proofs.TimesLemmas.{true_or_false, less_of, before_all, one_if, one_if-same, one_if-other, times-cons, absent, some_ascends, not_after-itself}

-- one term for each `many` equal ones that are passed, where `seen` of the last one were
abbrev pub shared : ℕ → Term → ℕ → List Term → List Term
shared many last seen [] = []
shared many last seen (u ∷ us) = cond (counted last seen u == many) (u ∷ shared many u 0 us) (shared many u (counted last seen u) us)

-- the same from the first on
abbrev pub over : ℕ → List Term → List Term
over many [] = []
over many (u ∷ us) = shared many u 0 (u ∷ us)

either_some : {u : Term} {us xs ys : List Term} (b : Bool) → SomeOf xs us → SomeOf ys us → SomeOf (cond b (u ∷ xs) ys) (u ∷ us)
either_some true s r = taken s
either_some false s r = left r

shared_some : (many : ℕ) (last : Term) (seen : ℕ) (us : List Term) → SomeOf (shared many last seen us) us
shared_some many last seen [] = none
shared_some many last seen (u ∷ us) = either_some (counted last seen u == many) (shared_some many u 0 us) (shared_some many u (counted last seen u) us)

-- how many of t were passed
abbrev passed : Term → Term → ℕ → ℕ
passed t last seen = cond (same t last) seen 0

-- so many are at least `many` times q, and less than one more time
pub record Within (many q n : ℕ) : Type 0 where
  pub low : many * q ≤ n
  pub high : n < many * (q + 1)

-- what this step says of t: it is the term that is passed, or another one
record IsHere (t u : Term) (p n : ℕ) : Type 0 where
  here : one_if t u ≡ 1
  more : n ≡ p + 1
  all : (m : ℕ) → passed t u m ≡ m

record IsElse (t u : Term) (p n x seen : ℕ) : Type 0 where
  missing : one_if t u ≡ 0
  nothing : (m : ℕ) → passed t u m ≡ 0
  before : (p ≡ 0) ⊎ ((x ≡ 0) × (n ≡ 1) × (p ≡ seen))

passed_of : (t u : Term) (m : ℕ) (b : Bool) → same t u ≡ b → passed t u m ≡ cond b m 0
passed_of t u m b e = ap (λ c. cond c m 0) e

other_side : (t last u : Term) → same t last ≡ true → same t u ≡ false → same last u ≡ false
other_side t last u e f = ap (λ x. same x u) (sym (same-equal t last e)) ∙ f

same_side : (t last u : Term) → same t u ≡ true → same t last ≡ same last u
same_side t last u e = ⊎_elim
    (λ f. f ∙ sym (ap (λ x. same x u) (sym (same-equal t last f)) ∙ e))
    (λ f. f ∙ sym (⊎_elim
    (λ g. not_true (sym (equal-same t last (same-equal t u e ∙ sym (same-equal last u g))) ∙ f))
    (λ g. g)
    (true_or_false (same last u))))
    (true_or_false (same t last))

here_of : (t last u : Term) (seen : ℕ) → same t u ≡ true → IsHere t u (passed t last seen) (counted last seen u)
here_of t last u seen e = record {
  here = one_if-same t u e;
  more = by (same last u) (ap (λ b. cond b seen 0) (same_side t last u e));
  all = λ m. passed_of t u m true e;
}
  where
    by : (b : Bool) → passed t last seen ≡ cond b seen 0 → cond b (seen + 1) 1 ≡ passed t last seen + 1
    by true f = omega arith
    by false f = omega arith

else_of : (t last u : Term) (us : List Term) (seen : ℕ) → Pairs NotAfter (last ∷ u ∷ us) → same t u ≡ false → IsElse t u (passed t last seen) (counted last seen u) (times t us) seen
else_of t last u us seen h e = record {
  missing = one_if-other t u e;
  nothing = λ m. passed_of t u m false e;
  before = ⊎_elim
      (λ f. let other : same last u ≡ false = other_side t last u f e in
      let lt : order last u ≡ Less = less_of (order last u) other h.0.0 in
      let lt' : order t u ≡ Less = ap (λ x. order x u) (same-equal t last f) ∙ lt in
      inr (absent t us (before_all t u us lt' h.1.0), ap (λ b. cond b (seen + 1) 1) other, passed_of t last seen true f))
      (λ f. inl (passed_of t last seen false f))
      (true_or_false (same t last));
}

-- at the last of `many`
full : (many seen n x p a q r : ℕ) (t u : Term) → seen < many → n ≡ many → IsHere t u p n ⊎ IsElse t u p n x seen → a ≡ one_if t u → r ≡ a + q → Within many q (x + passed t u 0) → Within many r ((a + x) + p)
full many seen n x p a q r t u few e (inl h) f g w =
    let none_yet : passed t u 0 ≡ 0 = h.all 0 in
    let one : a ≡ 1 = f ∙ h.here in
    let more : n ≡ p + 1 = h.more in
    let low : many * q ≤ x + passed t u 0 = w.low in
    let high : x + passed t u 0 < many * (q + 1) = w.high in
    let all : r ≡ q + 1 = omega arith in
    record { low = rw all (omega arith); high = rw all (omega arith) }
full many seen n x p a q r t u few e (inr h) f g w =
    let none_yet : passed t u 0 ≡ 0 = h.nothing 0 in
    let no_one : a ≡ 0 = f ∙ h.missing in
    let low : many * q ≤ x + passed t u 0 = w.low in
    let high : x + passed t u 0 < many * (q + 1) = w.high in
    let all : r ≡ q = omega arith in
    let no_passed : p ≡ 0 = ⊎_elim (λ k. k) (λ k. let l : n ≡ 1 = k.1 in let m : p ≡ seen = k.2 in omega arith) h.before in
    record { low = rw all (omega arith); high = rw all (omega arith) }

-- before the last of `many`
fewer : (many seen n x p a q : ℕ) (t u : Term) → seen < many → IsHere t u p n ⊎ IsElse t u p n x seen → a ≡ one_if t u → Within many q (x + passed t u n) → Within many q ((a + x) + p)
fewer many seen n x p a q t u few (inl h) f w =
    let all : passed t u n ≡ n = h.all n in
    let one : a ≡ 1 = f ∙ h.here in
    let more : n ≡ p + 1 = h.more in
    let low : many * q ≤ x + passed t u n = w.low in
    let high : x + passed t u n < many * (q + 1) = w.high in
    record { low = omega arith; high = omega arith }
fewer many seen n x p a q t u few (inr h) f w =
    let none_here : passed t u n ≡ 0 = h.nothing n in
    let no_one : a ≡ 0 = f ∙ h.missing in
    let low : many * q ≤ x + passed t u n = w.low in
    let high : x + passed t u n < many * (q + 1) = w.high in
    ⊎_elim
    (λ k. record { low = omega arith; high = omega arith })
    (λ k. let z : x ≡ 0 = k.0 in let m : p ≡ seen = k.2 in record { low = omega arith; high = omega arith })
    h.before

lt_of : (a b : ℕ) → a ≤ b → (a == b) ≡ false → a < b
lt_of a b le e = ⊎_elim (λ h. h) (λ h. let same_number : a ≡ b = omega arith in not_true (sym (eq-eqb a b same_number) ∙ e)) (cases_lt a b)

counted_few : (last u : Term) (seen many : ℕ) → seen < many → counted last seen u ≤ many
counted_few last u seen many few = by (same last u)
  where
    by : (b : Bool) → cond b (seen + 1) 1 ≤ many
    by true = omega arith
    by false = omega arith

-- what is there of t or was passed, against how often it is among the shares
abbrev Shares : ℕ → Term → ℕ → List Term → Term → List Term → Type 0
Shares many last seen us t xs = Within many (times t xs) (times t us + passed t last seen)

step : (many : ℕ) (last : Term) (seen : ℕ) (u : Term) (us xs ys : List Term) (t : Term) (b : Bool) → (counted last seen u == many) ≡ b → Pairs NotAfter (last ∷ u ∷ us) → seen < many
    → Shares many u 0 us t xs → (counted last seen u < many → Shares many u (counted last seen u) us t ys) → Shares many last seen (u ∷ us) t (cond b (u ∷ xs) ys)
step many last seen u us xs ys t true e h few first rest =
    subst (λ k. Within many (times t (u ∷ xs)) (k + passed t last seen)) (sym (times-cons t u us))
    (full many seen (counted last seen u) (times t us) (passed t last seen) (one_if t u) (times t xs) (times t (u ∷ xs)) t u few (eqb-true (counted last seen u) many e)
    (⊎_elim (λ s. inl (here_of t last u seen s)) (λ s. inr (else_of t last u us seen h s)) (true_or_false (same t u))) refl (times-cons t u xs) first)
step many last seen u us xs ys t false e h few first rest =
    subst (λ k. Within many (times t ys) (k + passed t last seen)) (sym (times-cons t u us))
    (fewer many seen (counted last seen u) (times t us) (passed t last seen) (one_if t u) (times t ys) t u few
    (⊎_elim (λ s. inl (here_of t last u seen s)) (λ s. inr (else_of t last u us seen h s)) (true_or_false (same t u))) refl
    (rest (lt_of (counted last seen u) many (counted_few last u seen many few) e)))

shares : (many : ℕ) (last : Term) (seen : ℕ) (us : List Term) (t : Term) → Pairs NotAfter (last ∷ us) → seen < many → Shares many last seen us t (shared many last seen us)
shares many last seen [] t h few = by (same t last)
  where
    by : (b : Bool) → Within many 0 (0 + cond b seen 0)
    by true = record { low = omega arith; high = omega arith }
    by false = record { low = omega arith; high = omega arith }
shares many last seen (u ∷ us) t h few = step many last seen u us (shared many u 0 us) (shared many u (counted last seen u) us) t (counted last seen u == many) refl h few
    (shares many u 0 us t h.1 (omega arith))
    (λ lt. shares many u (counted last seen u) us t h.1 lt)

quotient : (many q n : ℕ) → 0 < many → Within many q n → q ≡ n / many
quotient many q n some w =
    let low : many * q ≤ n = w.low in
    let high : n < many * (q + 1) = w.high in
    let le : q ≤ n / many = le-div q n many some (omega arith) in
    let lt : n / many < q + 1 = div_below n many (q + 1) some (omega arith) in
    omega arith

over_times : (many : ℕ) (us : List Term) (t : Term) → 0 < many → Pairs NotAfter us → times t (over many us) ≡ times t us / many
over_times many [] t some h = quotient many 0 0 some (record { low = omega arith; high = omega arith })
over_times many (u ∷ us) t some h = quotient many (times t (over many (u ∷ us))) (times t (u ∷ us)) some
    (rw (none_passed (same t u)) at (shares many u 0 (u ∷ us) t ((not_after-itself u, h.0), h) some))
  where
    none_passed : (b : Bool) → times t (u ∷ us) + cond b 0 0 ≡ times t (u ∷ us)
    none_passed true = omega arith
    none_passed false = omega arith

over_some : (many : ℕ) (us : List Term) → SomeOf (over many us) us
over_some many [] = none
over_some many (u ∷ us) = shared_some many u 0 (u ∷ us)

-- the shares from the first row on
pub over_first : (many : ℕ) (ws : List (Where Term)) (w : Where Term) → 1 ≤ length ws → w ≡ get_or ws 0 w → shared many w.value 0 (terms ws) ≡ over many (terms ws)
over_first many [] w le is = absurd (omega arith)
over_first many (v ∷ ws) w le is = ap (λ (x : Where Term). shared many x.value 0 (terms (v ∷ ws))) is

over_is : (many : ℕ) (us ws : List Term) → ws ≡ over many us → 0 < many → Ascends us → IsOver many us ws
over_is many us ws e some up =
    let some_of : SomeOf ws us = subst (λ l. SomeOf l us) (sym e) (over_some many us) in
    record {
      some = some_of;
      each = λ t. ap (times t) e ∙ over_times many us t some (pairs_of NotAfter us up);
      ascends = some_ascends ws us some_of up;
    }

-- there are no rows
pub over_none : (many : ℕ) (rows out : List (Where Term)) → length rows < 1 → out ≡ [] → 0 < many → Ascends (terms rows) → IsOver many (terms rows) (terms out)
over_none many [] out lt e some up = over_is many [] (terms out) (ap terms e) some up
over_none many (u ∷ rows) out lt e some up = absurd (omega arith)

-- all rows were passed
pub over_found : (many : ℕ) (us out : List Term) (last : Term) (seen : ℕ) (rows : List (Where Term)) → out ++ shared many last seen (terms rows) ≡ over many us → length rows < 1
    → 0 < many → Ascends us → IsOver many us out
over_found many us out last seen [] e lt some up = over_is many us out (sym (append-nil out) ∙ e) some up
over_found many us out last seen (u ∷ rows) e lt some up = absurd (omega arith)

pub ruleset overs = (over_first)
