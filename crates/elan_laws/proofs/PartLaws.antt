-- The parts of a term ascend, and are what `IsPart` says.
use Rattle.std.proofs.Common.{◌≡◌, refl, sym, ap, ◌↔◌, ◌⊎◌, inl, inr, ⊎_elim, ◌||◌, subst, ◌≤◌, Bool, true, false, cond, nat_lt, ℤ, List, [], ◌∷◌, ◌++◌, map, length, is_gt, is_eq, Contains, filter, flat_map, ltb-true, lt-ltb}
use Rattle.std.specs.List.{list_any}
use Rattle.std.specs.declared.cmp.Ordering.{Ordering}
use Rattle.std.specs.declared.cmp.Ordering.TheVariants.{Less, Equal, Greater}
use Rattle.elan_terms.specs.declared.tree.OpId.{OpId}
use Rattle.elan_terms.specs.declared.tree.Term.{Term}
use Rattle.elan_terms.specs.declared.tree.Shapes.{Shapes}
use Rattle.elan_terms.specs.Trees.{int_term, app_term}
use Rattle.elan_terms.specs.Term.{order, same, ascending, is_ac}
use Rattle.elan_terms.specs.Match.{sublists, pieces_at, pieces, once, parts}
use Rattle.elan_terms.proofs.MatchLemmas.{pieces-int, pieces-app}
use Rattle.elan_terms.proofs.OrderLemmas.{same-equal}
use Rattle.elan_terms.specs.Valid.{IsValid}
use Rattle.elan_terms.specs.Ascending.{Before, NotAfter, AscendsStrictly}
use Rattle.elan_laws.specs.Parts.{SomeOf, none, taken, left, IsPart, whole, inside, some}
use Rattle.elan_terms.proofs.Lists.{AllOf, Pairs, In, in_of_contains, contains_of_in, pairs_from, in_all, in_left, in_right, in_either, in_filter, in_kept, in_map, in_mapped, in_flat, in_flattened}
use Rattle.elan_terms.proofs.Induction.{ind_term, cases_term}
use Rattle.elan_terms.proofs.NodeLemmas.{two_arguments, valid_arguments}
use Rattle.elan_terms.proofs.PartLemmas.{once-pairs, once-in, in_once}
use Rattle.elan_terms.proofs.Sorting.{not_true, ascending-pairs, ascending-in, in_ascending}

-- ---- each once

pub parts-ascend : (shapes : Shapes) (t : Term) → AscendsStrictly (parts shapes t)
unfolding parts
parts-ascend shapes t = pairs_from Before _ (once-pairs _ (ascending-pairs (pieces shapes t)))

-- ---- what is in them

pub parts-pieces : (shapes : Shapes) (t p : Term) → In p (parts shapes t) ↔ In p (pieces shapes t)
unfolding parts
parts-pieces shapes t p = (λ i. ascending-in p (pieces shapes t) (once-in p (ascending (pieces shapes t)) i), λ i. in_once p _ (in_ascending p (pieces shapes t) i))

-- ---- the pieces

sublists-some : (us ts : List Term) → In us (sublists ts) → SomeOf us ts
sublists-some us [] (inl e) = subst (λ l. SomeOf l []) (sym e) none
sublists-some us [] (inr i) = elim i [ ]
sublists-some us (t ∷ ts) i = ⊎_elim
    (λ j. let h : (vs : List Term) × In vs (sublists ts) × (us ≡ t ∷ vs) = in_map (λ ys. t ∷ ys) (sublists ts) us j in
    subst (λ l. SomeOf l (t ∷ ts)) (sym h.2) (taken (sublists-some h.0 ts h.1)))
    (λ j. left (sublists-some us ts j))
    (in_either (map (λ ys. t ∷ ys) (sublists ts)) (sublists ts) us i)

some-sublists : {us ts : List Term} → SomeOf us ts → In us (sublists ts)
some-sublists none = inl refl
some-sublists (taken {x = x} {us = us} {ts = ts} h) = in_left (map (λ ys. x ∷ ys) (sublists ts)) (sublists ts) (x ∷ us) (in_mapped (λ ys. x ∷ ys) (sublists ts) us (some-sublists h))
some-sublists (left {x = x} {us = us} {ts = ts} h) = in_right (map (λ ys. x ∷ ys) (sublists ts)) (sublists ts) us (some-sublists h)

-- all of them are some of them
all_some : (ts : List Term) → SomeOf ts ts
all_some [] = none
all_some (t ∷ ts) = taken (all_some ts)

-- a Bool is one of the two
pub true_or_false : (b : Bool) → (b ≡ true) ⊎ (b ≡ false)
true_or_false true = inl refl
true_or_false false = inr refl

pieces_at-ac : (shapes : Shapes) (op : OpId) (ts : List Term) → is_ac shapes op ≡ true → pieces_at shapes op ts ≡ map (app_term op) (filter (λ us. nat_lt 1 (length us)) (sublists ts))
unfolding pieces_at
pieces_at-ac shapes op ts e = ap (λ b. cond b (map (app_term op) (filter (λ us. nat_lt 1 (length us)) (sublists ts))) (app_term op ts ∷ [])) e

pieces_at-plain : (shapes : Shapes) (op : OpId) (ts : List Term) → is_ac shapes op ≡ false → pieces_at shapes op ts ≡ app_term op ts ∷ []
unfolding pieces_at
pieces_at-plain shapes op ts e = ap (λ b. cond b (map (app_term op) (filter (λ us. nat_lt 1 (length us)) (sublists ts))) (app_term op ts ∷ [])) e

pieces-of : (shapes : Shapes) (op : OpId) (ts : List Term) → pieces shapes (app_term op ts) ≡ pieces_at shapes op ts ++ flat_map (pieces shapes) ts
pieces-of shapes op ts = pieces-app shapes (app_term op ts) op ts refl

ac_piece : (shapes : Shapes) (op : OpId) (ts : List Term) (p : Term) → is_ac shapes op ≡ true → In p (map (app_term op) (filter (λ us. nat_lt 1 (length us)) (sublists ts))) → IsPart shapes p (app_term op ts)
ac_piece shapes op ts p e i =
    let h : (us : List Term) × In us (filter (λ vs. nat_lt 1 (length vs)) (sublists ts)) × (p ≡ app_term op us) = in_map (app_term op) _ p i in
    let k : In h.0 (sublists ts) × (nat_lt 1 (length h.0) ≡ true) = in_filter (λ vs. nat_lt 1 (length vs)) (sublists ts) h.0 h.1 in
    some op ts h.0 e (sublists-some h.0 ts k.0) (ltb-true 1 (length h.0) k.1) h.2

piece_at : (shapes : Shapes) (op : OpId) (ts : List Term) (p : Term) → In p (pieces_at shapes op ts) → IsPart shapes p (app_term op ts)
piece_at shapes op ts p i = ⊎_elim
    (λ e. ac_piece shapes op ts p e (subst (In p) (pieces_at-ac shapes op ts e) i))
    (λ e. whole (only (subst (In p) (pieces_at-plain shapes op ts e) i)))
    (true_or_false (is_ac shapes op))
  where
    only : In p (app_term op ts ∷ []) → p ≡ app_term op ts
    only (inl e) = e
    only (inr i) = elim i [ ]

pub piece-part : (shapes : Shapes) (t p : Term) → In p (pieces shapes t) → IsPart shapes p t
piece-part shapes = ind_term (λ t. (p : Term) → In p (pieces shapes t) → IsPart shapes p t) int app
  where
    only : (z : ℤ) (p : Term) → In p (int_term z ∷ []) → IsPart shapes p (int_term z)
    only z p (inl e) = whole e
    only z p (inr i) = elim i [ ]

    int : (z : ℤ) (p : Term) → In p (pieces shapes (int_term z)) → IsPart shapes p (int_term z)
    int z p i = only z p (subst (In p) (pieces-int shapes (int_term z) z refl) i)

    app : (op : OpId) (ts : List Term) → AllOf (λ t. (p : Term) → In p (pieces shapes t) → IsPart shapes p t) ts → (p : Term) → In p (pieces shapes (app_term op ts)) → IsPart shapes p (app_term op ts)
    app op ts h p i = ⊎_elim
        (λ j. piece_at shapes op ts p j)
        (λ j. let k : (t : Term) × In t ts × In p (pieces shapes t) = in_flat (pieces shapes) ts p j in
        inside op ts k.0 (contains_of_in ts k.0 k.1) (in_all (λ t. (q : Term) → In q (pieces shapes t) → IsPart shapes q t) ts k.0 h k.1 p k.2))
        (in_either (pieces_at shapes op ts) (flat_map (pieces shapes) ts) p (subst (In p) (pieces-of shapes op ts) i))

-- ---- and back

some_piece : (shapes : Shapes) (op : OpId) (us ts : List Term) → is_ac shapes op ≡ true → SomeOf us ts → 2 ≤ length us → In (app_term op us) (pieces_at shapes op ts)
some_piece shapes op us ts e h two = subst (In (app_term op us)) (sym (pieces_at-ac shapes op ts e))
    (in_mapped (app_term op) _ us (in_kept (λ vs. nat_lt 1 (length vs)) (sublists ts) us (some-sublists h) (lt-ltb 1 (length us) two)))

whole_piece : (shapes : Shapes) (t : Term) → IsValid shapes t → In t (pieces shapes t)
whole_piece shapes = cases_term (λ t. IsValid shapes t → In t (pieces shapes t))
    (λ z v. subst (In (int_term z)) (sym (pieces-int shapes (int_term z) z refl)) (inl refl))
    (λ op ts v. subst (In (app_term op ts)) (sym (pieces-of shapes op ts)) (in_left (pieces_at shapes op ts) (flat_map (pieces shapes) ts) (app_term op ts)
    (⊎_elim
    (λ e. some_piece shapes op ts ts e (all_some ts) (two_arguments shapes op ts e v))
    (λ e. subst (In (app_term op ts)) (sym (pieces_at-plain shapes op ts e)) (inl refl))
    (true_or_false (is_ac shapes op)))))

pub part-piece : (shapes : Shapes) (p t : Term) → IsValid shapes t → IsPart shapes p t → In p (pieces shapes t)
part-piece shapes p t v (whole e) = subst (λ q. In q (pieces shapes t)) (sym e) (whole_piece shapes t v)
part-piece shapes p t v (inside op ts u c h) =
    subst (In p) (sym (pieces-of shapes op ts)) (in_right (pieces_at shapes op ts) (flat_map (pieces shapes) ts) p
    (in_flattened (pieces shapes) ts u p (in_of_contains ts u c) (part-piece shapes p u (in_all (IsValid shapes) ts u (valid_arguments shapes op ts v) (in_of_contains ts u c)) h)))
part-piece shapes p t v (some op ts us e h two is) =
    subst (In p) (sym (pieces-of shapes op ts)) (in_left (pieces_at shapes op ts) (flat_map (pieces shapes) ts) p
    (subst (λ q. In q (pieces_at shapes op ts)) (sym is) (some_piece shapes op us ts e h two)))

pub parts-exact : (shapes : Shapes) (t p : Term) → IsValid shapes t → Contains (parts shapes t) p ↔ IsPart shapes p t
parts-exact shapes t p v = (
  λ c. piece-part shapes t p ((parts-pieces shapes t p).0 (in_of_contains (parts shapes t) p c)),
  λ h. contains_of_in (parts shapes t) p ((parts-pieces shapes t p).1 (part-piece shapes p t v h)),
)
