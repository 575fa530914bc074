-- For lists that ascend, some of the items are a list that ascends and has each item at most as often.
use Rattle.std.proofs.Common.{◌≡◌, refl, sym, ap, ◌∙◌, ◌↔◌, ◌⊎◌, inl, inr, ⊎_elim, subst, ℕ, suc, ◌+◌, ◌≤◌, Bool, true, false, cond, List, [], ◌∷◌, is_gt, is_eq, arith}
use Rattle.std.specs.declared.cmp.Ordering.{Ordering}
use Rattle.std.specs.declared.cmp.Ordering.TheVariants.{Less, Equal, Greater}
use Rattle.elan_terms.specs.declared.tree.Term.{Term}
use Rattle.elan_terms.specs.Term.{order, same}
use Rattle.elan_terms.proofs.OrderLemmas.{order-equal, same-equal, equal-same}
use Rattle.elan_terms.specs.Ascending.{NotAfter, Ascends}
use Rattle.elan_laws.specs.Parts.{SomeOf, none, taken, left, times}
use Rattle.elan_terms.proofs.Lists.{AllOf, Pairs, In, pairs_of, pairs_from, in_all, all_map}
use Rattle.elan_terms.proofs.OrderLaws.{transitive}
use Rattle.elan_terms.proofs.Sorting.{not_true}
use Rattle.elan_laws.proofs.CanonicalLaws.{true_or_false}

-- ---- what holds of all holds of some

pub some_all : {us ts : List Term} (P : Term → Type 0) → SomeOf us ts → AllOf P ts → AllOf P us
some_all P none h = h
some_all P (taken s) h = (h.0, some_all P s h.1)
some_all P (left s) h = some_all P s h.1

pub some_pairs : {us ts : List Term} (R : Term → Term → Type 0) → SomeOf us ts → Pairs R ts → Pairs R us
some_pairs R none h = h
some_pairs R (taken {x = x} s) h = (some_all (R x) s h.0, some_pairs R s h.1)
some_pairs R (left s) h = some_pairs R s h.1

-- ---- how often a term stands there

-- one for a term that is the same, and none for another
abbrev one_if : Term → Term → ℕ
one_if t u = cond (same t u) 1 0

one_if-same : (t u : Term) → same t u ≡ true → one_if t u ≡ 1
one_if-same t u e = ap (λ b. cond b 1 0) e

one_if-other : (t u : Term) → same t u ≡ false → one_if t u ≡ 0
one_if-other t u e = ap (λ b. cond b 1 0) e

times-cons_by : (n : ℕ) (b : Bool) → cond b (suc n) n ≡ cond b 1 0 + n
times-cons_by n true = omega arith
times-cons_by n false = omega arith

times-cons : (t u : Term) (us : List Term) → times t (u ∷ us) ≡ one_if t u + times t us
times-cons t u us = times-cons_by (times t us) (same t u)

-- ---- some of them have no more of any

some-times : {us ts : List Term} (t : Term) → SomeOf us ts → times t us ≤ times t ts
some-times t none = omega arith
some-times t (taken {x = x} {us = us} {ts = ts} h) = let later : times t us ≤ times t ts = some-times t h in omega (arith, times-cons t x us, times-cons t x ts)
some-times t (left {x = x} {us = us} {ts = ts} h) = let later : times t us ≤ times t ts = some-times t h in omega (arith, times-cons t x ts)

-- ---- and back

times-in : (t : Term) (ts : List Term) → 1 ≤ times t ts → In t ts
times-in t [] one = absurd (omega arith)
times-in t (u ∷ ts) one = ⊎_elim
    (λ e. inl (same-equal t u e))
    (λ e. let zero_here : one_if t u ≡ 0 = one_if-other t u e in inr (times-in t ts (omega (arith, times-cons t u ts))))
    (true_or_false (same t u))

absent : (t : Term) (ts : List Term) → AllOf (λ u. same t u ≡ false) ts → times t ts ≡ 0
absent t [] h = refl
absent t (u ∷ ts) h = let here : one_if t u ≡ 0 = one_if-other t u h.0 in let later : times t ts ≡ 0 = absent t ts h.1 in omega (arith, times-cons t u ts)

not_same : (t u : Term) → order t u ≡ Less → same t u ≡ false
not_same t u e = ap is_eq e

less_of : (o : Ordering) → is_eq o ≡ false → is_gt o ≡ false → o ≡ Less
less_of Less e f = refl
less_of Equal e f = not_true e
less_of Greater e f = not_true f

before_all : (t u v : Term) (o : Ordering) → order u v ≡ o → order t u ≡ Less → is_gt o ≡ false → order t v ≡ Less
before_all t u v Less e lt le = transitive t u v lt e
before_all t u v Equal e lt le = ap (order t) (sym (order-equal u v e)) ∙ lt
before_all t u v Greater e lt le = not_true le

-- what stands before the first of these stands before all, and so is none of them
none_of : (t u : Term) (us : List Term) → order t u ≡ Less → AllOf (NotAfter u) us → AllOf (λ v. same t v ≡ false) (u ∷ us)
none_of t u us lt h = (not_same t u lt, all_map (NotAfter u) (λ v. same t v ≡ false) (λ v le. not_same t v (before_all t u v (order u v) refl lt le)) us h)

-- the first of these is missing in those that begin with a smaller one
first_missing : (t u : Term) (us ts : List Term) → same u t ≡ false → AllOf (NotAfter t) ts → AllOf (NotAfter u) us → times u (u ∷ us) ≤ times u (t ∷ ts) → times t (u ∷ us) ≡ 0
first_missing t u us ts other h k le =
    let mine : one_if u u ≡ 1 = one_if-same u u (equal-same u u refl) in
    let its : one_if u t ≡ 0 = one_if-other u t other in
    let there : In u ts = times-in u ts (omega (arith, times-cons u u us, times-cons u t ts)) in
    let back : same t u ≡ false = ⊎_elim (λ e. not_true (sym (equal-same u t (sym (same-equal t u e))) ∙ other)) (λ e. e) (true_or_false (same t u)) in
    absent t (u ∷ us) (none_of t u us (less_of (order t u) back (in_all (NotAfter t) ts u h there)) k)

times-some : (us ts : List Term) → Pairs NotAfter us → Pairs NotAfter ts → ((t : Term) → times t us ≤ times t ts) → SomeOf us ts
times-some [] [] h k le = none
times-some (u ∷ us) [] h k le = let mine : one_if u u ≡ 1 = one_if-same u u (equal-same u u refl) in let few : times u (u ∷ us) ≤ times u [] = le u in absurd (omega (arith, times-cons u u us))
times-some [] (t ∷ ts) h k le = left (times-some [] ts tt k.1 (λ x. omega arith))
times-some (u ∷ us) (t ∷ ts) h k le = by_first (true_or_false (same u t)) (λ f. times-some us ts h.1 k.1 f) (λ f. times-some (u ∷ us) ts h k.1 f)
  where
    by_first : (same u t ≡ true) ⊎ (same u t ≡ false) → (((x : Term) → times x us ≤ times x ts) → SomeOf us ts) → (((x : Term) → times x (u ∷ us) ≤ times x ts) → SomeOf (u ∷ us) ts) → SomeOf (u ∷ us) (t ∷ ts)
    by_first (inl e) f g =
        let equal : u ≡ t = same-equal u t e in
        subst (λ v. SomeOf (u ∷ us) (v ∷ ts)) equal
        (taken (f (λ x. let few : times x (u ∷ us) ≤ times x (t ∷ ts) = le x in let alike : one_if x u ≡ one_if x t = ap (one_if x) equal in omega (arith, times-cons x u us, times-cons x t ts))))
    by_first (inr other) f g = left (g (λ x. ⊎_elim
        (λ e. let missing : times x (u ∷ us) ≡ 0 = subst (λ v. times v (u ∷ us) ≡ 0) (sym (same-equal x t e)) (first_missing t u us ts other k.0 h.0 (le u)) in omega arith)
        (λ e. let few : times x (u ∷ us) ≤ times x (t ∷ ts) = le x in let its : one_if x t ≡ 0 = one_if-other x t e in omega (arith, times-cons x t ts))
        (true_or_false (same x t))))

pub some-exactly : (us ts : List Term) → Ascends ts → SomeOf us ts ↔ (Ascends us × ((t : Term) → times t us ≤ times t ts))
some-exactly us ts up = (
  λ h. (pairs_from NotAfter us (some_pairs NotAfter h (pairs_of NotAfter ts up)), λ t. some-times t h),
  λ k. times-some us ts (pairs_of NotAfter us k.0) (pairs_of NotAfter ts up) k.1,
)
