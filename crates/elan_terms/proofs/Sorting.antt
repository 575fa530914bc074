-- Sorting: what is put in ascends, and is what was there.
use Rattle.std.proofs.Common.{◌≡◌, refl, sym, ap, ◌∙◌, ◌⊎◌, inl, inr, ⊎_elim, suc, Bool, true, false, cond, List, [], ◌∷◌, length, is_gt}
use Rattle.std.specs.declared.cmp.Ordering.{Ordering}
use Rattle.std.specs.declared.cmp.Ordering.TheVariants.{Less, Equal, Greater}
use Rattle.std.specs.Ordering.{ordering_reverse}
use Rattle.std.proofs.lemmas.Cmp.{upto}
use Rattle.elan_terms.specs.declared.tree.Term.{Term}
use Rattle.elan_terms.specs.Term.{order, put_in, ascending}
use Rattle.elan_terms.specs.Ascending.{NotAfter}
use Rattle.elan_terms.proofs.Lists.{AllOf, Pairs, In, all_map}
use Rattle.elan_terms.proofs.OrderLaws.{reversed, order_total}

pub not_true : {A : Type 0} → true ≡ false → A
not_true e = absurd (no e)
  where
    no : true ≡ false → ⊥
    no f = cc

reverse_gt : (o : Ordering) → is_gt o ≡ true → is_gt (ordering_reverse o) ≡ false
reverse_gt Less e = not_true (sym e)
reverse_gt Equal e = not_true (sym e)
reverse_gt Greater e = refl

-- the one that comes after
pub after : (t u : Term) → is_gt (order t u) ≡ true → NotAfter u t
after t u e = ap is_gt (reversed u t) ∙ reverse_gt (order t u) e

-- one before the other, and that before a third
pub not_after_trans : (t u v : Term) → NotAfter t u → NotAfter u v → NotAfter t v
not_after_trans t u v h k = upto order_total t u v h k

put_in-all_by : (P : Term → Type 0) (t u : Term) (us rest : List Term) (b : Bool) → P t → P u → AllOf P us → AllOf P rest → AllOf P (cond b (u ∷ rest) (t ∷ u ∷ us))
put_in-all_by P t u us rest true p q h k = (q, k)
put_in-all_by P t u us rest false p q h k = (p, (q, h))

pub put_in-all : (P : Term → Type 0) (t : Term) (us : List Term) → P t → AllOf P us → AllOf P (put_in t us)
put_in-all P t [] p h = (p, tt)
put_in-all P t (u ∷ us) p h = put_in-all_by P t u us (put_in t us) (is_gt (order t u)) p h.0 h.1 (put_in-all P t us p h.1)

put_in-pairs_by : (t u : Term) (us rest : List Term) (b : Bool) → is_gt (order t u) ≡ b → AllOf (NotAfter u) us → Pairs NotAfter us → AllOf (NotAfter u) us → (is_gt (order t u) ≡ true → AllOf (NotAfter u) rest) → Pairs NotAfter rest → Pairs NotAfter (cond b (u ∷ rest) (t ∷ u ∷ us))
put_in-pairs_by t u us rest true e h k l m n = (m e, n)
put_in-pairs_by t u us rest false e h k l m n = ((e, all_map (NotAfter u) (NotAfter t) (λ v. not_after_trans t u v e) us h), (h, k))

pub put_in-pairs : (t : Term) (us : List Term) → Pairs NotAfter us → Pairs NotAfter (put_in t us)
put_in-pairs t [] h = (tt, tt)
put_in-pairs t (u ∷ us) h = put_in-pairs_by t u us (put_in t us) (is_gt (order t u)) refl h.0 h.1 h.0
    (λ e. put_in-all (NotAfter u) t us (after t u e) h.0) (put_in-pairs t us h.1)

pub ascending-pairs : (ts : List Term) → Pairs NotAfter (ascending ts)
ascending-pairs [] = tt
ascending-pairs (t ∷ ts) = put_in-pairs t (ascending ts) (ascending-pairs ts)

-- ---- what is in them

put_in-in_by : (x t u : Term) (us rest : List Term) (b : Bool) → (In x rest → (x ≡ t) ⊎ In x us) → In x (cond b (u ∷ rest) (t ∷ u ∷ us)) → (x ≡ t) ⊎ In x (u ∷ us)
put_in-in_by x t u us rest true f (inl e) = inr (inl e)
put_in-in_by x t u us rest true f (inr i) = ⊎_elim (λ e. inl e) (λ j. inr (inr j)) (f i)
put_in-in_by x t u us rest false f i = i

put_in-in : (x t : Term) (us : List Term) → In x (put_in t us) → (x ≡ t) ⊎ In x us
put_in-in x t [] i = i
put_in-in x t (u ∷ us) i = put_in-in_by x t u us (put_in t us) (is_gt (order t u)) (put_in-in x t us) i

in_put_in_by : (x t u : Term) (us rest : List Term) (b : Bool) → ((x ≡ t) ⊎ In x us → In x rest) → (x ≡ t) ⊎ In x (u ∷ us) → In x (cond b (u ∷ rest) (t ∷ u ∷ us))
in_put_in_by x t u us rest true f (inl e) = inr (f (inl e))
in_put_in_by x t u us rest true f (inr (inl e)) = inl e
in_put_in_by x t u us rest true f (inr (inr i)) = inr (f (inr i))
in_put_in_by x t u us rest false f i = i

in_put_in : (x t : Term) (us : List Term) → (x ≡ t) ⊎ In x us → In x (put_in t us)
in_put_in x t [] i = i
in_put_in x t (u ∷ us) i = in_put_in_by x t u us (put_in t us) (is_gt (order t u)) (in_put_in x t us) i

pub ascending-in : (x : Term) (ts : List Term) → In x (ascending ts) → In x ts
ascending-in x [] i = i
ascending-in x (t ∷ ts) i = ⊎_elim (λ e. inl e) (λ j. inr (ascending-in x ts j)) (put_in-in x t (ascending ts) i)

pub in_ascending : (x : Term) (ts : List Term) → In x ts → In x (ascending ts)
in_ascending x [] i = i
in_ascending x (t ∷ ts) (inl e) = in_put_in x t (ascending ts) (inl e)
in_ascending x (t ∷ ts) (inr i) = in_put_in x t (ascending ts) (inr (in_ascending x ts i))

-- ---- as many as there were

put_in-length_by : (t u : Term) (us rest : List Term) (b : Bool) → length rest ≡ suc (length us) → length (cond b (u ∷ rest) (t ∷ u ∷ us)) ≡ suc (suc (length us))
put_in-length_by t u us rest true e = ap suc e
put_in-length_by t u us rest false e = refl

pub put_in-length : (t : Term) (us : List Term) → length (put_in t us) ≡ suc (length us)
put_in-length t [] = refl
put_in-length t (u ∷ us) = put_in-length_by t u us (put_in t us) (is_gt (order t u)) (put_in-length t us)

pub ascending-length : (ts : List Term) → length (ascending ts) ≡ length ts
ascending-length [] = refl
ascending-length (t ∷ ts) = put_in-length t (ascending ts) ∙ ap suc (ascending-length ts)

pub ascending-all : (P : Term → Type 0) (ts : List Term) → AllOf P ts → AllOf P (ascending ts)
ascending-all P [] h = tt
ascending-all P (t ∷ ts) h = put_in-all P t (ascending ts) h.0 (ascending-all P ts h.1)

-- ---- what ascends already

put_in-front : (t : Term) (us : List Term) → AllOf (NotAfter t) us → put_in t us ≡ t ∷ us
put_in-front t [] h = refl
put_in-front t (u ∷ us) h = ap (λ b. cond b (u ∷ put_in t us) (t ∷ u ∷ us)) h.0

pub ascending-itself : (ts : List Term) → Pairs NotAfter ts → ascending ts ≡ ts
ascending-itself [] h = refl
ascending-itself (t ∷ ts) h = ap (put_in t) (ascending-itself ts h.1) ∙ put_in-front t ts h.0
