-- Sorting takes no account of how its items stood before.
use Rattle.std.proofs.Common.{◌≡◌, refl, sym, ap, ◌∙◌, ◌⊎◌, inl, inr, ⊎_elim, Bool, true, false, cond, List, [], ◌∷◌, ◌++◌, append-nil, is_gt}
use Rattle.std.specs.declared.cmp.Ordering.{Ordering}
use Rattle.std.specs.declared.cmp.Ordering.TheVariants.{Less, Equal, Greater}
use Rattle.std.specs.Ordering.{ordering_reverse}
use Rattle.elan_terms.specs.declared.tree.Term.{Term}
use Rattle.elan_terms.specs.Term.{order, put_in, ascending}
use Rattle.elan_terms.proofs.OrderLemmas.{order-equal}
use Rattle.elan_terms.proofs.OrderLaws.{reversed}
use Rattle.elan_terms.proofs.Sorting.{not_true, after, not_after_trans}
use Rattle.elan_laws.proofs.CanonicalLaws.{true_or_false}

-- ---- two terms are put in in either order

put_in-greater : (t u : Term) (us : List Term) → is_gt (order t u) ≡ true → put_in t (u ∷ us) ≡ u ∷ put_in t us
put_in-greater t u us e = ap (λ b. cond b (u ∷ put_in t us) (t ∷ u ∷ us)) e

put_in-not : (t u : Term) (us : List Term) → is_gt (order t u) ≡ false → put_in t (u ∷ us) ≡ t ∷ u ∷ us
put_in-not t u us e = ap (λ b. cond b (u ∷ put_in t us) (t ∷ u ∷ us)) e

neither : (o : Ordering) → is_gt o ≡ false → is_gt (ordering_reverse o) ≡ false → o ≡ Equal
neither Less e f = not_true f
neither Equal e f = refl
neither Greater e f = not_true e

-- neither comes after the other
equal_of : (t u : Term) → is_gt (order t u) ≡ false → is_gt (order u t) ≡ false → t ≡ u
equal_of t u e f = order-equal t u (neither (order t u) e (sym (ap is_gt (reversed u t)) ∙ f))

-- after one that comes after another
after_both : (t u w : Term) → is_gt (order t w) ≡ true → is_gt (order u w) ≡ false → is_gt (order t u) ≡ true
after_both t u w e f = ⊎_elim (λ h. h) (λ h. not_true (sym e ∙ not_after_trans t u w h f)) (true_or_false (is_gt (order t u)))

-- both before the first of these
both_first : (t u w : Term) (us : List Term) → is_gt (order t w) ≡ false → is_gt (order u w) ≡ false → put_in t (u ∷ w ∷ us) ≡ put_in u (t ∷ w ∷ us)
both_first t u w us e f = ⊎_elim
    (λ g. put_in-greater t u (w ∷ us) g ∙ ap (λ r. u ∷ r) (put_in-not t w us e) ∙ sym (put_in-not u t (w ∷ us) (after t u g)))
    (λ n. ⊎_elim
    (λ h. put_in-not t u (w ∷ us) n ∙ sym (put_in-greater u t (w ∷ us) h ∙ ap (λ r. t ∷ r) (put_in-not u w us f)))
    (λ m. ap (λ x. put_in x (u ∷ w ∷ us)) (equal_of t u n m) ∙ ap (λ x. put_in u (x ∷ w ∷ us)) (sym (equal_of t u n m)))
    (true_or_false (is_gt (order u t))))
    (true_or_false (is_gt (order t u)))

-- one after the first of these, the other before it
one_first : (t u w : Term) (us : List Term) → is_gt (order t w) ≡ true → is_gt (order u w) ≡ false → put_in t (put_in u (w ∷ us)) ≡ put_in u (put_in t (w ∷ us))
one_first t u w us e f =
    ap (put_in t) (put_in-not u w us f) ∙ put_in-greater t u (w ∷ us) (after_both t u w e f) ∙ ap (λ r. u ∷ r) (put_in-greater t w us e)
    ∙ sym (ap (put_in u) (put_in-greater t w us e) ∙ put_in-not u w (put_in t us) f)

pub put_in-swap : (t u : Term) (us : List Term) → put_in t (put_in u us) ≡ put_in u (put_in t us)
put_in-swap t u [] = ⊎_elim
    (λ g. put_in-greater t u [] g ∙ sym (put_in-not u t [] (after t u g)))
    (λ n. ⊎_elim
    (λ h. put_in-not t u [] n ∙ sym (put_in-greater u t [] h))
    (λ m. ap (λ x. put_in x (u ∷ [])) (equal_of t u n m) ∙ ap (λ x. put_in u (x ∷ [])) (sym (equal_of t u n m)))
    (true_or_false (is_gt (order u t))))
    (true_or_false (is_gt (order t u)))
put_in-swap t u (w ∷ us) = by_first (put_in-swap t u us) (true_or_false (is_gt (order t w))) (true_or_false (is_gt (order u w)))
  where
    by_first : put_in t (put_in u us) ≡ put_in u (put_in t us) → (is_gt (order t w) ≡ true) ⊎ (is_gt (order t w) ≡ false) → (is_gt (order u w) ≡ true) ⊎ (is_gt (order u w) ≡ false)
        → put_in t (put_in u (w ∷ us)) ≡ put_in u (put_in t (w ∷ us))
    by_first ih (inl e) (inl f) =
        ap (put_in t) (put_in-greater u w us f) ∙ put_in-greater t w (put_in u us) e ∙ ap (λ r. w ∷ r) ih
        ∙ sym (ap (put_in u) (put_in-greater t w us e) ∙ put_in-greater u w (put_in t us) f)
    by_first ih (inl e) (inr f) = one_first t u w us e f
    by_first ih (inr e) (inl f) = sym (one_first u t w us f e)
    by_first ih (inr e) (inr f) = ap (put_in t) (put_in-not u w us f) ∙ both_first t u w us e f ∙ sym (ap (put_in u) (put_in-not t w us e))

-- ---- lists sorted together

-- the first terms put in among others, from the last on
abbrev put_all : List Term → List Term → List Term
put_all [] s = s
put_all (t ∷ ts) s = put_in t (put_all ts s)

put_all-append : (ts us s : List Term) → put_all (ts ++ us) s ≡ put_all ts (put_all us s)
put_all-append [] us s = refl
put_all-append (t ∷ ts) us s = ap (put_in t) (put_all-append ts us s)

ascending-put_all : (ts : List Term) → ascending ts ≡ put_all ts []
ascending-put_all [] = refl
ascending-put_all (t ∷ ts) = ap (put_in t) (ascending-put_all ts)

ascending-append : (ts us : List Term) → ascending (ts ++ us) ≡ put_all ts (ascending us)
ascending-append ts us = ascending-put_all (ts ++ us) ∙ put_all-append ts us [] ∙ ap (put_all ts) (sym (ascending-put_all us))

put_all-put_in_by : (t u : Term) (us s : List Term) (b : Bool) → put_all (put_in t us) s ≡ put_in t (put_all us s) → put_all (cond b (u ∷ put_in t us) (t ∷ u ∷ us)) s ≡ put_in t (put_in u (put_all us s))
put_all-put_in_by t u us s true e = ap (put_in u) e ∙ put_in-swap u t (put_all us s)
put_all-put_in_by t u us s false e = refl

put_all-put_in : (t : Term) (us s : List Term) → put_all (put_in t us) s ≡ put_in t (put_all us s)
put_all-put_in t [] s = refl
put_all-put_in t (u ∷ us) s = put_all-put_in_by t u us s (is_gt (order t u)) (put_all-put_in t us s)

put_all-ascending : (ts s : List Term) → put_all (ascending ts) s ≡ put_all ts s
put_all-ascending [] s = refl
put_all-ascending (t ∷ ts) s = put_all-put_in t (ascending ts) s ∙ ap (put_in t) (put_all-ascending ts s)

-- what is in the middle may be sorted before
pub ascending-middle : (front ts back : List Term) → ascending (front ++ (ascending ts ++ back)) ≡ ascending (front ++ (ts ++ back))
ascending-middle front ts back =
    ascending-append front (ascending ts ++ back)
    ∙ ap (put_all front) (ascending-append (ascending ts) back ∙ put_all-ascending ts (ascending back) ∙ sym (ascending-append ts back))
    ∙ sym (ascending-append front (ts ++ back))

put_all-later : (t : Term) (us s : List Term) → put_all us (put_in t s) ≡ put_in t (put_all us s)
put_all-later t [] s = refl
put_all-later t (u ∷ us) s = ap (put_in u) (put_all-later t us s) ∙ put_in-swap u t (put_all us s)

-- two lists may change places
pub ascending-swap : (ts us : List Term) → ascending (ts ++ us) ≡ ascending (us ++ ts)
ascending-swap [] us = ap ascending (sym (append-nil us))
ascending-swap (t ∷ ts) us =
    ap (put_in t) (ascending-swap ts us ∙ ascending-append us ts) ∙ sym (put_all-later t us (ascending ts)) ∙ sym (ascending-append us (t ∷ ts))
