-- What stands once in a list that ascends: each before all that come later.
use Rattle.std.proofs.Common.{◌≡◌, refl, sym, ap, ◌∙◌, ◌⊎◌, inl, inr, ⊎_elim, ◌||◌, subst, Bool, true, false, cond, List, [], ◌∷◌, is_gt, is_eq}
use Rattle.std.specs.List.{list_any}
use Rattle.std.specs.declared.cmp.Ordering.{Ordering}
use Rattle.std.specs.declared.cmp.Ordering.TheVariants.{Less, Equal, Greater}
use Rattle.std.specs.Ordering.{ordering_reverse}
use Rattle.elan_terms.specs.declared.tree.Term.{Term}
use Rattle.elan_terms.specs.Term.{order, same, ascending}
use Rattle.elan_terms.specs.Match.{once}
use Rattle.elan_terms.specs.Sublists as sublists
use Rattle.elan_terms.specs.Ascending.{Before, NotAfter}
use Rattle.elan_terms.proofs.OrderLemmas.{same-equal, order-equal}
use Rattle.elan_terms.proofs.OrderLaws.{reversed, transitive}
use Rattle.elan_terms.proofs.Lists.{AllOf, Pairs, In, all_map, in_all}
use Rattle.elan_terms.proofs.Sorting.{not_true, ascending-pairs, ascending-in, in_ascending}

-- ---- each stands before all that come later

once-all_by : (P : Term → Type 0) (t : Term) (rest : List Term) (b : Bool) → P t → AllOf P rest → AllOf P (cond b rest (t ∷ rest))
once-all_by P t rest true p h = h
once-all_by P t rest false p h = (p, h)

once-all : (P : Term → Type 0) (ts : List Term) → AllOf P ts → AllOf P (once ts)
once-all P [] h = tt
once-all P (t ∷ ts) h = once-all_by P t (once ts) (list_any (same t) ts) h.0 (once-all P ts h.1)

pub less_of : (o : Ordering) → is_eq o ≡ false → is_gt o ≡ false → o ≡ Less
less_of Less e f = refl
less_of Equal e f = not_true e
less_of Greater e f = not_true f

none_is : (a b : Bool) → a || b ≡ false → (a ≡ false) × (b ≡ false)
none_is true b e = not_true e
none_is false b e = (refl, e)

-- before those that come after and are not equal
strictly_before : (t : Term) (ts : List Term) → list_any (same t) ts ≡ false → AllOf (NotAfter t) ts → AllOf (Before t) ts
strictly_before t [] e h = tt
strictly_before t (u ∷ ts) e h =
    let n : (same t u ≡ false) × (list_any (same t) ts ≡ false) = none_is (same t u) (list_any (same t) ts) e in
    (less_of (order t u) n.0 h.0, strictly_before t ts n.1 h.1)

once-pairs_by : (t : Term) (ts rest : List Term) (b : Bool) → list_any (same t) ts ≡ b → (list_any (same t) ts ≡ false → AllOf (Before t) rest) → Pairs Before rest → Pairs Before (cond b rest (t ∷ rest))
once-pairs_by t ts rest true e f h = h
once-pairs_by t ts rest false e f h = (f e, h)

pub once-pairs : (ts : List Term) → Pairs NotAfter ts → Pairs Before (once ts)
once-pairs [] h = tt
once-pairs (t ∷ ts) h = once-pairs_by t ts (once ts) (list_any (same t) ts) refl
    (λ e. once-all (Before t) ts (strictly_before t ts e h.0)) (once-pairs ts h.1)

-- ---- what is in them

once-in_by : (x t : Term) (rest : List Term) (b : Bool) → In x (cond b rest (t ∷ rest)) → (x ≡ t) ⊎ In x rest
once-in_by x t rest true i = inr i
once-in_by x t rest false i = i

pub once-in : (x : Term) (ts : List Term) → In x (once ts) → In x ts
once-in x [] i = i
once-in x (t ∷ ts) i = ⊎_elim (λ e. inl e) (λ j. inr (once-in x ts j)) (once-in_by x t (once ts) (list_any (same t) ts) i)

one_is : (a b : Bool) → a || b ≡ true → (a ≡ true) ⊎ (b ≡ true)
one_is true b e = inl e
one_is false b e = inr e

any-in : (t : Term) (ts : List Term) → list_any (same t) ts ≡ true → In t ts
any-in t [] e = not_true (sym e)
any-in t (u ∷ ts) e = ⊎_elim (λ h. inl (same-equal t u h)) (λ h. inr (any-in t ts h)) (one_is (same t u) (list_any (same t) ts) e)

in_once_by : (x t : Term) (rest : List Term) (b : Bool) → (x ≡ t → b ≡ true → In x rest) → (x ≡ t) ⊎ In x rest → In x (cond b rest (t ∷ rest))
in_once_by x t rest true f (inl e) = f e refl
in_once_by x t rest true f (inr i) = i
in_once_by x t rest false f i = i

pub in_once : (x : Term) (ts : List Term) → In x ts → In x (once ts)
in_once x [] i = i
in_once x (t ∷ ts) (inl e) = in_once_by x t (once ts) (list_any (same t) ts) (λ e h. subst (λ y. In y (once ts)) (sym e) (in_once t ts (any-in t ts h))) (inl e)
in_once x (t ∷ ts) (inr i) = in_once_by x t (once ts) (list_any (same t) ts) (λ e h. in_once x ts i) (inr (in_once x ts i))

-- ---- in a list that ascends equal terms stand together

no_later : (t : Term) (us : List Term) → AllOf (Before t) us → list_any (same t) us ≡ false
no_later t [] h = refl
no_later t (u ∷ us) h = ap (λ o. is_eq o || list_any (same t) us) h.0 ∙ no_later t us h.1

before_later : (t u v : Term) (o : Ordering) → order u v ≡ o → order t u ≡ Less → is_gt o ≡ false → order t v ≡ Less
before_later t u v Less e lt le = transitive t u v lt e
before_later t u v Equal e lt le = ap (order t) (sym (order-equal u v e)) ∙ lt
before_later t u v Greater e lt le = not_true le

later_by : (t u : Term) (us : List Term) (b : Bool) → same t u ≡ b → NotAfter t u → AllOf (NotAfter u) us → b ≡ b || list_any (same t) us
later_by t u us true e h k = refl
later_by t u us false e h k =
    let lt : order t u ≡ Less = less_of (order t u) e h in
    sym (no_later t us (all_map (NotAfter u) (Before t) (λ v le. before_later t u v (order u v) refl lt le) us k))

begins-any : (t : Term) (ts : List Term) → AllOf (NotAfter t) ts → Pairs NotAfter ts → sublists.begins t ts ≡ list_any (same t) ts
begins-any t [] h k = refl
begins-any t (u ∷ us) h k = later_by t u us (same t u) refl h.0 k.0

pub once-ascending : (ts : List Term) → Pairs NotAfter ts → sublists.once ts ≡ once ts
once-ascending [] h = refl
once-ascending (t ∷ ts) h =
    ap (λ b. cond b (sublists.once ts) (t ∷ sublists.once ts)) (begins-any t ts h.0 h.1)
    ∙ ap (λ us. cond (list_any (same t) ts) us (t ∷ us)) (once-ascending ts h.1)

-- ---- two such lists that have the same terms are one list

not_itself_by : {A : Type 0} (o : Ordering) → o ≡ Less → o ≡ ordering_reverse o → A
not_itself_by Less e f = not_true (sym (ap is_gt f))
not_itself_by Equal e f = not_true (ap is_eq e)
not_itself_by Greater e f = not_true (ap is_gt e)

not_before_itself : {A : Type 0} (t : Term) → Before t t → A
not_before_itself t h = not_itself_by (order t t) h (reversed t t)

both_before : {A : Type 0} (t u : Term) → Before t u → Before u t → A
both_before t u h k = not_before_itself t (transitive t u t h k)

first_of : (t u : Term) (ts us : List Term) → In u (t ∷ ts) → In t (u ∷ us) → AllOf (Before t) ts → AllOf (Before u) us → u ≡ t
first_of t u ts us (inl e) j h k = e
first_of t u ts us (inr i) (inl e) h k = sym e
first_of t u ts us (inr i) (inr j) h k = both_before t u (in_all (Before t) ts u h i) (in_all (Before u) us t k j)

later_of : (x t : Term) (ts us : List Term) → AllOf (Before t) ts → In x ts → In x (t ∷ us) → In x us
later_of x t ts us h i (inl e) = not_before_itself t (subst (Before t) e (in_all (Before t) ts x h i))
later_of x t ts us h i (inr j) = j

pub unique_strictly : (us ts : List Term) → Pairs Before us → Pairs Before ts → ((x : Term) → In x us → In x ts) → ((x : Term) → In x ts → In x us) → us ≡ ts
unique_strictly [] [] h k f g = refl
unique_strictly [] (t ∷ ts) h k f g = elim (g t (inl refl)) [ ]
unique_strictly (u ∷ us) [] h k f g = elim (f u (inl refl)) [ ]
unique_strictly (u ∷ us) (t ∷ ts) h k f g =
    let is : u ≡ t = first_of t u ts us (f u (inl refl)) (g t (inl refl)) k.0 h.0 in
    ap (λ x. x ∷ us) is ∙ ap (λ l. t ∷ l) (unique_strictly us ts h.1 k.1
    (λ x i. later_of x u us ts h.0 i (subst (λ y. In x (y ∷ ts)) (sym is) (f x (inr i))))
    (λ x i. later_of x t ts us k.0 i (subst (λ y. In x (y ∷ us)) is (g x (inr i)))))

-- what stands once in the ascending list depends only on what is there
pub once-same : (us ts : List Term) → ((x : Term) → In x us → In x ts) → ((x : Term) → In x ts → In x us) → once (ascending us) ≡ once (ascending ts)
once-same us ts f g = unique_strictly (once (ascending us)) (once (ascending ts))
    (once-pairs (ascending us) (ascending-pairs us)) (once-pairs (ascending ts) (ascending-pairs ts))
    (λ x i. in_once x (ascending ts) (in_ascending x ts (f x (ascending-in x us (once-in x (ascending us) i)))))
    (λ x i. in_once x (ascending us) (in_ascending x us (g x (ascending-in x ts (once-in x (ascending ts) i)))))
