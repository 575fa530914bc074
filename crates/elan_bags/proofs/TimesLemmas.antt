-- How often terms stand in lists.
use Rattle.std.proofs.Common.{◌≡◌, refl, sym, ap, ◌∙◌, ◌⊎◌, inl, inr, ℕ, suc, ◌+◌, ◌≤◌, Bool, true, false, cond, List, [], ◌∷◌, ◌++◌, length, is_gt, is_eq, arith}
use Rattle.std.specs.declared.cmp.Ordering.{Ordering}
use Rattle.std.specs.declared.cmp.Ordering.TheVariants.{Less, Equal, Greater}
use Rattle.std.specs.Ordering.{ordering_reverse}
use Rattle.elan_terms.specs.declared.tree.Term.{Term}
use Rattle.elan_terms.specs.Term.{order, same, put_in, ascending}
use Rattle.elan_terms.specs.Ascending.{Before, NotAfter, Ascends}
use Rattle.elan_terms.proofs.Lists.{AllOf, Pairs, pairs_of, pairs_from}
use Rattle.elan_terms.proofs.OrderLaws.{reversed, transitive}
use Rattle.elan_terms.proofs.OrderLemmas.{order-equal, order-itself}
use Rattle.elan_terms.proofs.Sorting.{not_true, ascending-pairs, ascending-length}
use Rattle.elan_laws.specs.Parts.{SomeOf, none, taken, left, times}
use Rattle.elan_laws.proofs.TimesLaws.{some-exactly}

-- ---- cases

pub true_or_false : (b : Bool) → (b ≡ true) ⊎ (b ≡ false)
true_or_false true = inl refl
true_or_false false = inr refl

pub not_equal : {A : Type 0} → Equal ≡ Less → A
not_equal e = absurd (no e)
  where
    no : Equal ≡ Less → ⊥
    no f = cc

pub not_greater : {A : Type 0} → Greater ≡ Less → A
not_greater e = absurd (no e)
  where
    no : Greater ≡ Less → ⊥
    no f = cc

pub less_of : (o : Ordering) → is_eq o ≡ false → is_gt o ≡ false → o ≡ Less
less_of Less e f = refl
less_of Equal e f = not_true e
less_of Greater e f = not_true f

equal_of : (o : Ordering) → is_eq o ≡ true → o ≡ Equal
equal_of Less e = not_true (sym e)
equal_of Equal e = refl
equal_of Greater e = not_true (sym e)

pub not_after-itself : (t : Term) → NotAfter t t
not_after-itself t = ap is_gt (order-itself t)

pub less-reversed : (t u : Term) → order t u ≡ Less → order u t ≡ Greater
less-reversed t u e = reversed u t ∙ ap ordering_reverse e

greater_of_reverse : (o : Ordering) → is_gt (ordering_reverse o) ≡ true → o ≡ Less
greater_of_reverse Less e = refl
greater_of_reverse Equal e = not_true (sym e)
greater_of_reverse Greater e = not_true (sym e)

-- the second comes after the first
pub before_of : (t u : Term) → is_gt (order u t) ≡ true → order t u ≡ Less
before_of t u e = greater_of_reverse (order t u) (ap is_gt (sym (reversed u t)) ∙ e)

-- before what does not stand after it
pub before_later : (t u v : Term) (o : Ordering) → order u v ≡ o → order t u ≡ Less → is_gt o ≡ false → order t v ≡ Less
before_later t u v Less e lt le = transitive t u v lt e
before_later t u v Equal e lt le = ap (order t) (sym (order-equal u v e)) ∙ lt
before_later t u v Greater e lt le = not_true le

pub before_all : (t u : Term) (us : List Term) → order t u ≡ Less → AllOf (NotAfter u) us → AllOf (Before t) us
before_all t u [] lt h = tt
before_all t u (v ∷ us) lt h = (before_later t u v (order u v) refl lt h.0, before_all t u us lt h.1)

-- ---- how often

-- one for an equal term, none for another
abbrev pub one_if : Term → Term → ℕ
one_if t u = cond (same t u) 1 0

times_by : (n : ℕ) (b : Bool) → cond b (suc n) n ≡ cond b 1 0 + n
times_by n true = omega arith
times_by n false = omega arith

pub times-cons : (t u : Term) (us : List Term) → times t (u ∷ us) ≡ one_if t u + times t us
times-cons t u us = times_by (times t us) (same t u)

pub one_if-same : (t u : Term) → same t u ≡ true → one_if t u ≡ 1
one_if-same t u e = ap (λ b. cond b 1 0) e

pub one_if-other : (t u : Term) → same t u ≡ false → one_if t u ≡ 0
one_if-other t u e = ap (λ b. cond b 1 0) e

pub one_if-before : (t u : Term) → order t u ≡ Less → one_if t u ≡ 0
one_if-before t u e = one_if-other t u (ap is_eq e)

-- a term that stands before all of them is none of them
pub absent : (t : Term) (us : List Term) → AllOf (Before t) us → times t us ≡ 0
absent t [] h = refl
absent t (u ∷ us) h =
    let here : one_if t u ≡ 0 = one_if-before t u h.0 in
    let later : times t us ≡ 0 = absent t us h.1 in
    omega (arith, times-cons t u us)

pub times-append : (t : Term) (us vs : List Term) → times t (us ++ vs) ≡ times t us + times t vs
times-append t [] vs = omega arith
times-append t (u ∷ us) vs =
    let later : times t (us ++ vs) ≡ times t us + times t vs = times-append t us vs in
    omega (arith, times-cons t u us, times-cons t u (us ++ vs))

put_in-times_by : (t u v : Term) (us rest : List Term) (b : Bool) → times t rest ≡ times t (u ∷ us) → times t (cond b (v ∷ rest) (u ∷ v ∷ us)) ≡ times t (u ∷ v ∷ us)
put_in-times_by t u v us rest true e = omega (arith, times-cons t v rest, times-cons t u us, times-cons t u (v ∷ us), times-cons t v us)
put_in-times_by t u v us rest false e = refl

pub put_in-times : (t u : Term) (us : List Term) → times t (put_in u us) ≡ times t (u ∷ us)
put_in-times t u [] = refl
put_in-times t u (v ∷ us) = put_in-times_by t u v us (put_in u us) (is_gt (order u v)) (put_in-times t u us)

pub ascending-times : (t : Term) (us : List Term) → times t (ascending us) ≡ times t us
ascending-times t [] = refl
ascending-times t (u ∷ us) =
    let later : times t (ascending us) ≡ times t us = ascending-times t us in
    let here : times t (put_in u (ascending us)) ≡ times t (u ∷ ascending us) = put_in-times t u (ascending us) in
    omega (arith, times-cons t u (ascending us), times-cons t u us)

-- ---- some of them

pub some_itself : (us : List Term) → SomeOf us us
some_itself [] = none
some_itself (u ∷ us) = taken (some_itself us)

pub some_none : (us : List Term) → SomeOf [] us
some_none [] = none
some_none (u ∷ us) = left (some_none us)

pub some_all : {us ts : List Term} (P : Term → Type 0) → SomeOf us ts → AllOf P ts → AllOf P us
some_all P none h = h
some_all P (taken s) h = (h.0, some_all P s h.1)
some_all P (left s) h = some_all P s h.1

pub some_pairs : {us ts : List Term} (R : Term → Term → Type 0) → SomeOf us ts → Pairs R ts → Pairs R us
some_pairs R none h = h
some_pairs R (taken {x = x} s) h = (some_all (R x) s h.0, some_pairs R s h.1)
some_pairs R (left s) h = some_pairs R s h.1

pub some_ascends : (us ts : List Term) → SomeOf us ts → Ascends ts → Ascends us
some_ascends us ts s up = pairs_from NotAfter us (some_pairs NotAfter s (pairs_of NotAfter ts up))

pub some-length : {us ts : List Term} → SomeOf us ts → length us ≤ length ts
some-length none = omega arith
some-length (taken {us = us} {ts = ts} s) = let few : length us ≤ length ts = some-length s in omega arith
some-length (left {us = us} {ts = ts} s) = let few : length us ≤ length ts = some-length s in omega arith

pub some-times : (t : Term) {us ts : List Term} → SomeOf us ts → times t us ≤ times t ts
some-times t none = omega arith
some-times t (taken {x = x} {us = us} {ts = ts} s) = let few : times t us ≤ times t ts = some-times t s in omega (arith, times-cons t x us, times-cons t x ts)
some-times t (left {x = x} {us = us} {ts = ts} s) = let few : times t us ≤ times t ts = some-times t s in omega (arith, times-cons t x ts)

pub some_later : {y : Term} (us ts : List Term) → SomeOf (y ∷ us) ts → SomeOf us ts
some_later us [] s = elim s [ ]
some_later us (t ∷ ts) (taken s) = left s
some_later us (t ∷ ts) (left s) = left (some_later us ts s)

pub some_rest : {y u : Term} (ys us : List Term) → SomeOf (y ∷ ys) (u ∷ us) → SomeOf ys us
some_rest ys us (taken s) = s
some_rest ys us (left s) = some_later ys us s

pub head_not_after : {y u : Term} (ys us : List Term) → AllOf (NotAfter u) us → SomeOf (y ∷ ys) (u ∷ us) → NotAfter u y
head_not_after {u = u} ys us h (taken s) = not_after-itself u
head_not_after {u = u} ys us h (left s) = (some_all (NotAfter u) s h).0

-- a list that is as often there is some of a list that ascends
pub some_of_times : (us ts : List Term) → Ascends us → Ascends ts → ((t : Term) → times t us ≤ times t ts) → SomeOf us ts
some_of_times us ts up up' le = (some-exactly us ts up').1 (up, le)

some_whole : {us ts : List Term} → SomeOf us ts → length ts ≤ length us → us ≡ ts
some_whole none le = refl
some_whole (taken {x = x} {us = us} {ts = ts} s) le = let le' : length ts ≤ length us = omega arith in ap (λ l. x ∷ l) (some_whole s le')
some_whole (left {us = us} {ts = ts} s) le = let few : length us ≤ length ts = some-length s in absurd (omega arith)

-- lists that ascend and hold each term as often are equal
pub equal_of_times : (us ts : List Term) → Ascends us → Ascends ts → ((t : Term) → times t us ≡ times t ts) → us ≡ ts
equal_of_times us ts up up' e =
    let there : SomeOf us ts = some_of_times us ts up up' (λ t. let h : times t us ≡ times t ts = e t in omega arith) in
    let back : SomeOf ts us = some_of_times ts us up' up (λ t. let h : times t us ≡ times t ts = e t in omega arith) in
    some_whole there (some-length back)

-- lists that hold each term as often have one length
pub length_of_times : (us ts : List Term) → ((t : Term) → times t us ≡ times t ts) → length us ≡ length ts
length_of_times us ts e =
    sym (ascending-length us)
    ∙ ap length (equal_of_times (ascending us) (ascending ts) (pairs_from NotAfter (ascending us) (ascending-pairs us)) (pairs_from NotAfter (ascending ts) (ascending-pairs ts))
    (λ t. ascending-times t us ∙ e t ∙ sym (ascending-times t ts)))
    ∙ ascending-length ts
