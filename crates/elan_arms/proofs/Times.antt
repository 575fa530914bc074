-- How often terms stand in lists.
use Rattle.std.proofs.Common.{◌≡◌, refl, sym, ap, ◌∙◌, ⊎_elim, inl, inr, ℕ, suc, ◌+◌, ◌≤◌, Bool, true, false, cond, List, [], ◌∷◌, ◌++◌, length, is_gt, arith}
use Rattle.elan_terms.specs.declared.tree.Term.{Term}
use Rattle.elan_terms.specs.Term.{order, same, put_in, ascending}
use Rattle.elan_terms.proofs.OrderLemmas.{same-equal, equal-same}
use Rattle.elan_terms.proofs.Lists.{In, pairs_from}
use Rattle.elan_terms.proofs.Sorting.{ascending-pairs}
use Rattle.elan_terms.specs.Ascending.{NotAfter}
use Rattle.elan_laws.specs.Parts.{SomeOf, none, taken, left, times}
use Rattle.elan_laws.proofs.TimesLaws.{some-exactly}
use Rattle.elan_laws.proofs.CanonicalLaws.{true_or_false}

-- one for a term that is the same, and none for another
abbrev pub one_if : Term → Term → ℕ
one_if t u = cond (same t u) 1 0

times-cons_by : (n : ℕ) (b : Bool) → cond b (suc n) n ≡ cond b 1 0 + n
times-cons_by n true = omega arith
times-cons_by n false = omega arith

pub times-cons : (t u : Term) (us : List Term) → times t (u ∷ us) ≡ one_if t u + times t us
times-cons t u us = times-cons_by (times t us) (same t u)

pub one_if-same : (t u : Term) → same t u ≡ true → one_if t u ≡ 1
one_if-same t u e = ap (λ b. cond b 1 0) e

pub one_if-other : (t u : Term) → same t u ≡ false → one_if t u ≡ 0
one_if-other t u e = ap (λ b. cond b 1 0) e

pub times-append : (x : Term) (ts us : List Term) → times x (ts ++ us) ≡ times x ts + times x us
times-append x [] us = omega arith
times-append x (t ∷ ts) us =
    let later : times x (ts ++ us) ≡ times x ts + times x us = times-append x ts us in
    omega (arith, times-cons x t (ts ++ us), times-cons x t ts)

put_in-times_by : (x t u : Term) (us rest : List Term) (b : Bool) → times x rest ≡ one_if x t + times x us
    → times x (cond b (u ∷ rest) (t ∷ u ∷ us)) ≡ one_if x t + times x (u ∷ us)
put_in-times_by x t u us rest true e = omega (arith, times-cons x u rest, times-cons x u us)
put_in-times_by x t u us rest false e = omega (arith, times-cons x t (u ∷ us))

put_in-times : (x t : Term) (us : List Term) → times x (put_in t us) ≡ one_if x t + times x us
put_in-times x t [] = times-cons x t []
put_in-times x t (u ∷ us) = put_in-times_by x t u us (put_in t us) (is_gt (order t u)) (put_in-times x t us)

-- sorting keeps all
pub times-ascending : (x : Term) (ts : List Term) → times x (ascending ts) ≡ times x ts
times-ascending x [] = refl
times-ascending x (t ∷ ts) =
    let later : times x (ascending ts) ≡ times x ts = times-ascending x ts in
    omega (arith, put_in-times x t (ascending ts), times-cons x t ts)

some-fewer : {us ts : List Term} → SomeOf us ts → length us ≤ length ts
some-fewer none = omega arith
some-fewer (taken {us = us} {ts = ts} h) = let le : length us ≤ length ts = some-fewer h in omega arith
some-fewer (left {us = us} {ts = ts} h) = let le : length us ≤ length ts = some-fewer h in omega arith

some-all : {us ts : List Term} → SomeOf us ts → length ts ≤ length us → us ≡ ts
some-all none le = refl
some-all (taken {x = x} {us = us} {ts = ts} h) le = ap (λ vs. x ∷ vs) (some-all h (omega arith))
some-all (left {us = us} {ts = ts} h) le = let few : length us ≤ length ts = some-fewer h in absurd (omega arith)

-- two lists with the same terms are sorted alike
pub ascending-alike : (ts us : List Term) → ((x : Term) → times x ts ≡ times x us) → ascending ts ≡ ascending us
ascending-alike ts us e =
    let up : SomeOf (ascending ts) (ascending us)
    = (some-exactly (ascending ts) (ascending us) (pairs_from NotAfter (ascending us) (ascending-pairs us))).1
    (pairs_from NotAfter (ascending ts) (ascending-pairs ts), λ x. let a : times x ts ≡ times x us = e x in omega (arith, times-ascending x ts, times-ascending x us)) in
    let down : SomeOf (ascending us) (ascending ts)
    = (some-exactly (ascending us) (ascending ts) (pairs_from NotAfter (ascending ts) (ascending-pairs ts))).1
    (pairs_from NotAfter (ascending us) (ascending-pairs us), λ x. let a : times x ts ≡ times x us = e x in omega (arith, times-ascending x ts, times-ascending x us)) in
    some-all up (some-fewer down)

-- what stands there at least once
pub times_in : (t : Term) (ts : List Term) → 1 ≤ times t ts → In t ts
times_in t [] one = absurd (omega arith)
times_in t (u ∷ ts) one = ⊎_elim
    (λ e. inl (same-equal t u e))
    (λ e. let zero_here : one_if t u ≡ 0 = one_if-other t u e in inr (times_in t ts (omega (arith, times-cons t u ts))))
    (true_or_false (same t u))

pub in_times : (t : Term) (ts : List Term) → In t ts → 1 ≤ times t ts
in_times t [] i = elim i [ ]
in_times t (u ∷ ts) (inl e) = let here : one_if t u ≡ 1 = one_if-same t u (equal-same t u e) in omega (arith, times-cons t u ts)
in_times t (u ∷ ts) (inr i) = let later : 1 ≤ times t ts = in_times t ts i in omega (arith, times-cons t u ts)
