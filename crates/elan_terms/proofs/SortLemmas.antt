-- What std's sort makes of terms is the ascending list.
use Rattle.std.proofs.Common.{◌≡◌, refl, sym, ap, ◌∙◌, subst, inl, inr, ℕ, suc, ◌+◌, ◌≤◌, Bool, true, false, cond, List, [], ◌∷◌, reverse, get_or, is_gt, is_lt, sum_by, arith}
use Rattle.std.specs.declared.cmp.Ordering.{Ordering}
use Rattle.std.specs.declared.cmp.Ordering.TheVariants.{Less, Equal, Greater}
use Rattle.std.specs.Ordering.{ordering_reverse}
use Rattle.std.specs.List.Sorted.{IsPermutation, IsSortedBy}
use Rattle.std.proofs.lemmas.List.Sorted.{sum_by-IsPermutation, IsPermutation-reverse}
use Rattle.std.proofs.lemmas.List.Sums.{sum_by-cons}
use Rattle.elan_terms.specs.declared.tree.Term.{Term}
use Rattle.elan_terms.specs.Term.{order, same, put_in, ascending}
use Rattle.elan_terms.specs.Ascending.{NotAfter}
use Rattle.elan_terms.proofs.Lists.{AllOf, Pairs, In, all_map, in_all}
use Rattle.elan_terms.proofs.OrderLemmas.{order-equal, same-equal, equal-same}
use Rattle.elan_terms.proofs.OrderLaws.{reversed}
use Rattle.elan_terms.proofs.Sorting.{not_true, not_after_trans, ascending-pairs}

-- one term stands before another
abbrev pub earlier : Term → Term → Bool
earlier t u = is_lt (order t u)

-- ---- what is sorted ascends

reverse_lt : (o : Ordering) → is_lt (ordering_reverse o) ≡ false → is_gt o ≡ false
reverse_lt Less e = refl
reverse_lt Equal e = refl
reverse_lt Greater e = e

not_earlier : (t u : Term) → is_lt (order u t) ≡ false → NotAfter t u
not_earlier t u e = reverse_lt (order t u) (sym (ap is_lt (reversed u t)) ∙ e)

chain : (t : Term) (ts : List Term) → IsSortedBy earlier (t ∷ ts) → Pairs NotAfter ts → AllOf (NotAfter t) ts
chain t [] sorted h = tt
chain t (u ∷ ts) sorted h =
    let le : NotAfter t u = not_earlier t u (sorted 0 t (omega arith) (omega arith)) in
    (le, all_map (NotAfter u) (NotAfter t) (λ v k. not_after_trans t u v le k) ts h.0)

sorted_pairs : (ts : List Term) → IsSortedBy earlier ts → Pairs NotAfter ts
sorted_pairs [] sorted = tt
sorted_pairs (t ∷ ts) sorted =
    let rest : Pairs NotAfter ts = sorted_pairs ts (λ k d low high.
    let n : suc k + 1 ≡ suc (k + 1) = omega arith in subst (λ m. earlier (get_or (t ∷ ts) m d) (get_or ts k d) ≡ false) n (sorted (suc k) d (omega arith) (omega arith))) in
    (chain t ts sorted rest, rest)

-- ---- how often a term stands there

-- 1 where it is so, else 0
abbrev pub one : Bool → ℕ
one true = 1
one false = 0

-- how often a term stands in a list
abbrev pub count : Term → List Term → ℕ
count t [] = 0
count t (u ∷ us) = one (same t u) + count t us

count-sum : (t : Term) (us : List Term) → count t us ≡ sum_by (λ u. one (same t u)) us
count-sum t [] = refl
count-sum t (u ∷ us) = ap (λ n. one (same t u) + n) (count-sum t us) ∙ sym (sum_by-cons (λ v. one (same t v)) u us)

count-permuted : (t : Term) (xs ys : List Term) → IsPermutation xs ys → count t ys ≡ count t xs
count-permuted t xs ys p = count-sum t ys ∙ sum_by-IsPermutation (λ u. one (same t u)) xs ys p ∙ sym (count-sum t xs)

put_by : (x t u : Term) (us rest : List Term) (b : Bool) → count x rest ≡ count x (t ∷ us) → count x (cond b (u ∷ rest) (t ∷ u ∷ us)) ≡ count x (t ∷ u ∷ us)
put_by x t u us rest true e = omega (arith, e)
put_by x t u us rest false e = refl

count-put_in : (x t : Term) (us : List Term) → count x (put_in t us) ≡ count x (t ∷ us)
count-put_in x t [] = refl
count-put_in x t (u ∷ us) = put_by x t u us (put_in t us) (is_gt (order t u)) (count-put_in x t us)

count-ascending : (x : Term) (ts : List Term) → count x (ascending ts) ≡ count x ts
count-ascending x [] = refl
count-ascending x (t ∷ ts) = count-put_in x t (ascending ts) ∙ ap (λ n. one (same x t) + n) (count-ascending x ts)

-- ---- two ascending lists that have each term equally often are one list

one-itself : (t : Term) → one (same t t) ≡ 1
one-itself t = ap one (equal-same t t refl)

one_of : (b : Bool) (n : ℕ) → 1 ≤ one b + n → b ≡ false → 1 ≤ n
one_of true n h e = not_true e
one_of false n h e = omega (arith, h)

found_by : (t u : Term) (ts : List Term) (b : Bool) → same t u ≡ b → (1 ≤ count t ts → In t ts) → 1 ≤ one b + count t ts → In t (u ∷ ts)
found_by t u ts true e f h = inl (same-equal t u e)
found_by t u ts false e f h = inr (f (one_of false (count t ts) h refl))

count-in : (t : Term) (ts : List Term) → 1 ≤ count t ts → In t ts
count-in t [] h = absurd (omega (arith, h))
count-in t (u ∷ ts) h = found_by t u ts (same t u) refl (count-in t ts) h

alike_by : (t u : Term) (o : Ordering) → order t u ≡ o → is_gt o ≡ false → is_gt (ordering_reverse o) ≡ false → t ≡ u
alike_by t u Less e h k = not_true k
alike_by t u Equal e h k = order-equal t u e
alike_by t u Greater e h k = not_true h

alike : (t u : Term) → NotAfter t u → NotAfter u t → t ≡ u
alike t u h k = alike_by t u (order t u) refl h (sym (ap is_gt (reversed u t)) ∙ k)

first_alike : (t u : Term) (ts us : List Term) → In u (t ∷ ts) → In t (u ∷ us) → AllOf (NotAfter t) ts → AllOf (NotAfter u) us → u ≡ t
first_alike t u ts us (inl e) j h k = e
first_alike t u ts us (inr i) (inl e) h k = sym e
first_alike t u ts us (inr i) (inr j) h k = alike u t (in_all (NotAfter u) us t k j) (in_all (NotAfter t) ts u h i)

pub unique : (us ts : List Term) → Pairs NotAfter us → Pairs NotAfter ts → ((t : Term) → count t us ≡ count t ts) → us ≡ ts
unique [] [] h k e = refl
unique [] (t ∷ ts) h k e = let is : 0 ≡ one (same t t) + count t ts = e t in let mine : one (same t t) ≡ 1 = one-itself t in absurd (omega (arith, is, mine))
unique (u ∷ us) [] h k e = let is : one (same u u) + count u us ≡ 0 = e u in let mine : one (same u u) ≡ 1 = one-itself u in absurd (omega (arith, is, mine))
unique (u ∷ us) (t ∷ ts) h k e =
    let here : one (same u u) ≡ 1 = one-itself u in
    let there : one (same t t) ≡ 1 = one-itself t in
    let of_u : one (same u u) + count u us ≡ count u (t ∷ ts) = e u in
    let of_t : count t (u ∷ us) ≡ one (same t t) + count t ts = e t in
    let i : In u (t ∷ ts) = count-in u (t ∷ ts) (omega (arith, here, of_u)) in
    let j : In t (u ∷ us) = count-in t (u ∷ us) (omega (arith, there, of_t)) in
    let is : u ≡ t = first_alike t u ts us i j k.0 h.0 in
    let tails : (x : Term) → count x us ≡ count x ts = λ x.
    let both : one (same x u) + count x us ≡ one (same x t) + count x ts = e x in
    let alike : one (same x u) ≡ one (same x t) = ap (λ y. one (same x y)) is in omega (arith, both, alike) in
    ap (λ x. x ∷ us) is ∙ ap (λ l. t ∷ l) (unique us ts h.1 k.1 tails)

-- ---- so a sort gives the ascending list

pub sorted_ascending : (xs ys : List Term) → IsPermutation xs ys → IsSortedBy earlier ys → ys ≡ ascending xs
sorted_ascending xs ys p sorted = unique ys (ascending xs) (sorted_pairs ys sorted) (ascending-pairs xs) (λ t. count-permuted t xs ys p ∙ sym (count-ascending t xs))

pub ascending-permuted : (xs ys : List Term) → IsPermutation xs ys → ascending ys ≡ ascending xs
ascending-permuted xs ys p = unique (ascending ys) (ascending xs) (ascending-pairs ys) (ascending-pairs xs)
    (λ t. count-ascending t ys ∙ count-permuted t xs ys p ∙ sym (count-ascending t xs))

pub ascending-reverse : (ts : List Term) → ascending (reverse ts) ≡ ascending ts
ascending-reverse ts = ascending-permuted ts (reverse ts) (IsPermutation-reverse ts)

pub ruleset sorting = (ascending-reverse)
