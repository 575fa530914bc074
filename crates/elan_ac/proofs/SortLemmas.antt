-- Rows that a sort has put into the term order have the ascending list of their terms.
use Rattle.std.proofs.Common.{◌≡◌, refl, sym, ap, ◌∙◌, subst, ◌⊎◌, inl, inr, ℕ, zero, suc, ◌+◌, ◌≤◌, ◌<◌, Bool, true, false, cond, List, [], ◌∷◌, ◌++◌, length, map, get_or, is_gt, is_lt, sum_by, All, arith}
use Rattle.std.specs.declared.cmp.Ordering.{Ordering}
use Rattle.std.specs.declared.cmp.Ordering.TheVariants.{Less, Equal, Greater}
use Rattle.std.specs.Ordering.{ordering_reverse}
use Rattle.std.specs.List.Sorted.{IsPermutation, IsSortedBy}
use Rattle.std.proofs.lemmas.List.Sorted.{sum_by-IsPermutation}
use Rattle.std.proofs.lemmas.List.Sums.{sum_by-cons}
use Rattle.boxcar.specs.Table.{Where}
use Rattle.elan_terms.specs.declared.tree.Term.{Term}
use Rattle.elan_terms.specs.Term.{order, same, put_in, ascending}
use Rattle.elan_terms.specs.Ascending.{NotAfter, Ascends}
use Rattle.elan_laws.specs.Parts.{SomeOf, none, taken, left, times}
use Rattle.elan_terms.proofs.Lists.{AllOf, Pairs, all_map, pairs_of, pairs_from}
use Rattle.elan_terms.proofs.OrderLaws.{reversed}
use Rattle.elan_terms.proofs.Sorting.{not_after_trans, ascending-pairs}
use Rattle.elan_laws.proofs.TimesLaws.{some-exactly}
use Rattle.elan_table.specs.Rows.{terms}

-- one row's term stands before another's
abbrev pub earlier : Where Term → Where Term → Bool
earlier a b = is_lt (order a.value b.value)

-- ---- what is sorted ascends

reverse_lt : (o : Ordering) → is_lt (ordering_reverse o) ≡ false → is_gt o ≡ false
reverse_lt Less e = refl
reverse_lt Equal e = refl
reverse_lt Greater e = e

not_earlier : (t u : Term) → is_lt (order u t) ≡ false → NotAfter t u
not_earlier t u e = reverse_lt (order t u) (sym (ap is_lt (reversed u t)) ∙ e)

chain : (w : Where Term) (ws : List (Where Term)) → IsSortedBy earlier (w ∷ ws) → Pairs NotAfter (terms ws) → AllOf (NotAfter w.value) (terms ws)
chain w [] sorted h = tt
chain w (v ∷ ws) sorted h =
    let le : NotAfter w.value v.value = not_earlier w.value v.value (sorted 0 w (omega arith) (omega arith)) in
    (le, all_map (NotAfter v.value) (NotAfter w.value) (λ u k. not_after_trans w.value v.value u le k) (terms ws) h.0)

sorted_pairs : (ws : List (Where Term)) → IsSortedBy earlier ws → Pairs NotAfter (terms ws)
sorted_pairs [] sorted = tt
sorted_pairs (w ∷ ws) sorted =
    let rest : Pairs NotAfter (terms ws) = sorted_pairs ws (λ k d low high.
    let n : suc k + 1 ≡ suc (k + 1) = omega arith in subst (λ m. earlier (get_or (w ∷ ws) m d) (get_or ws k d) ≡ false) n (sorted (suc k) d (omega arith) (omega arith))) in
    (chain w ws sorted rest, rest)

-- ---- a sort keeps how often a term stands there

-- 1 where it is so, else 0
abbrev one : Bool → ℕ
one true = 1
one false = 0

times_cond : (b : Bool) (n : ℕ) → cond b (suc n) n ≡ one b + n
times_cond true n = omega arith
times_cond false n = omega arith

times_sum : (t : Term) (ws : List (Where Term)) → times t (terms ws) ≡ sum_by (λ w. one (same t w.value)) ws
times_sum t [] = refl
times_sum t (w ∷ ws) =
    ap (λ n. cond (same t w.value) (suc n) n) (times_sum t ws) ∙ times_cond (same t w.value) (sum_by (λ v. one (same t v.value)) ws)
    ∙ sym (sum_by-cons (λ v. one (same t v.value)) w ws)

times_permuted : (t : Term) (xs ys : List (Where Term)) → IsPermutation xs ys → times t (terms ys) ≡ times t (terms xs)
times_permuted t xs ys p = times_sum t ys ∙ sum_by-IsPermutation (λ w. one (same t w.value)) xs ys p ∙ sym (times_sum t xs)

swapped : (a b : Bool) (n : ℕ) → cond a (suc (cond b (suc n) n)) (cond b (suc n) n) ≡ cond b (suc (cond a (suc n) n)) (cond a (suc n) n)
swapped true true n = refl
swapped true false n = refl
swapped false true n = refl
swapped false false n = refl

put_by : (x t u : Term) (us rest : List Term) (b : Bool) → times x rest ≡ times x (t ∷ us) → times x (cond b (u ∷ rest) (t ∷ u ∷ us)) ≡ times x (t ∷ u ∷ us)
put_by x t u us rest true e = ap (λ n. cond (same x u) (suc n) n) e ∙ swapped (same x u) (same x t) (times x us)
put_by x t u us rest false e = refl

times_put : (x t : Term) (us : List Term) → times x (put_in t us) ≡ times x (t ∷ us)
times_put x t [] = refl
times_put x t (u ∷ us) = put_by x t u us (put_in t us) (is_gt (order t u)) (times_put x t us)

times_ascending : (x : Term) (ts : List Term) → times x (ascending ts) ≡ times x ts
times_ascending x [] = refl
times_ascending x (t ∷ ts) = times_put x t (ascending ts) ∙ ap (λ n. cond (same x t) (suc n) n) (times_ascending x ts)

-- ---- so it gives the ascending list

some-length : {us ts : List Term} → SomeOf us ts → length us ≤ length ts
some-length none = omega arith
some-length (taken s) = let le = some-length s in omega (arith, le)
some-length (left s) = let le = some-length s in omega (arith, le)

some_same : {us ts : List Term} → SomeOf us ts → length ts ≤ length us → us ≡ ts
some_same none le = refl
some_same (taken {x} s) le = ap (λ l. x ∷ l) (some_same s (omega arith))
some_same (left s) le = let fewer = some-length s in absurd (omega (arith, fewer, le))

no_more : (us ts : List Term) → ((t : Term) → times t us ≡ times t ts) → Ascends us → Ascends ts → us ≡ ts
no_more us ts e h k =
    let into : SomeOf us ts = (some-exactly us ts k).1 (h, λ t. let same = e t in omega (arith, same)) in
    let back : SomeOf ts us = (some-exactly ts us h).1 (k, λ t. let same = e t in omega (arith, same)) in
    some_same into (some-length back)

pub sorted_ascending : (xs ys : List (Where Term)) → IsPermutation xs ys → IsSortedBy earlier ys → terms ys ≡ ascending (terms xs)
sorted_ascending xs ys p sorted = no_more (terms ys) (ascending (terms xs)) (λ t. times_permuted t xs ys p ∙ sym (times_ascending t (terms xs)))
    (pairs_from NotAfter (terms ys) (sorted_pairs ys sorted)) (pairs_from NotAfter (ascending (terms xs)) (ascending-pairs (terms xs)))
