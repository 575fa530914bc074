-- The values of the variables are those with which the places agree, and no others are.
use Rattle.std.proofs.Common.{◌≡◌, refl, sym, ap, ◌∙◌, subst, ⊎_elim, ℕ, suc, ◌+◌, ◌-◌, ◌<◌, ◌≤◌, pos, Bool, true, false, cond, ◌||◌, ◌⊎◌, inl, inr, ◌==◌, eqb-true, eq-eqb, Option, Some, None, List, [], ◌∷◌, ◌++◌, length, get_or, slice_get, length-append, append_assoc, option_and_then, arith}
use Rattle.std.specs.List.{AllZip, list_any}
use Rattle.std.proofs.lemmas.List.{append-nil, get_or_append_left, get_or_at, nil_from_length}
use Rattle.std.proofs.lemmas.Option.{none-some, same_Some, slice_get-get_or, slice_get_past}
use Rattle.elan_terms.specs.declared.tree.SortId.{SortId}
use Rattle.elan_terms.specs.declared.tree.Term.{Term}
use Rattle.elan_terms.specs.declared.tree.Shapes.{Shapes}
use Rattle.elan_terms.specs.Trees.{int_term}
use Rattle.elan_terms.specs.Term.{same, sort_of}
use Rattle.elan_terms.specs.Match.{is_sort, has_sort, noted, new_in, bound}
use Rattle.elan_terms.proofs.OrderLemmas.{same-equal, equal-same}
use Rattle.elan_terms.specs.Valid.{HasSort}
use Rattle.elan_terms.proofs.Lists.{AllOf, all_append}
use Rattle.elan_terms.proofs.Sorting.{not_true}
use Rattle.elan_laws.proofs.CanonicalLaws.{true_or_false}
use Rattle.elan_laws.proofs.MatchLaws.{is_sort-some}
use Rattle.elan_match.specs.Plain.{AreNumbered}
use Rattle.elan_match.specs.Values.{with_value, with_places}
use Rattle.elan_match.proofs.PlaceLemmas.{Agree}

-- ---- numbers

numbered_first : (k : ℕ) (vs ws : List (ℕ × SortId)) → AreNumbered k (vs ++ ws) → AreNumbered k vs
numbered_first k [] ws h = tt
numbered_first k (v ∷ vs) ws h = (h.0, numbered_first (suc k) vs ws h.1)

numbered_next : (k : ℕ) (vs : List (ℕ × SortId)) (v : ℕ × SortId) → AreNumbered k (vs ++ v ∷ []) → v.0 ≡ k + length vs
numbered_next k [] v h = let e : v.0 ≡ k = h.0 in omega arith
numbered_next k (w ∷ vs) v h = let e : v.0 ≡ suc k + length vs = numbered_next (suc k) vs v h.1 in omega arith

one_is : (a b : Bool) → a || b ≡ true → (a ≡ true) ⊎ (b ≡ true)
one_is true b e = inl refl
one_is false b e = inr e

-- a variable that was seen has a number among these
known_within : (k x : ℕ) (vs : List (ℕ × SortId)) → AreNumbered k vs → list_any (λ w. w.0 == x) vs ≡ true
    → (k ≤ x) × (x < k + length vs)
known_within k x [] h e = not_true (sym e)
known_within k x (v ∷ vs) h e = ⊎_elim
    (λ here. let a : v.0 ≡ k = h.0 in let b : v.0 ≡ x = eqb-true v.0 x here in (omega arith, omega arith))
    (λ there. let r : (suc k ≤ x) × (x < suc k + length vs) = known_within (suc k) x vs h.1 there in (omega arith, omega arith))
    (one_is (v.0 == x) (list_any (λ w. w.0 == x) vs) e)

noted-known : (seen : List (ℕ × SortId)) (v : ℕ × SortId) → list_any (λ w. w.0 == v.0) seen ≡ true → noted seen v ≡ seen
noted-known seen v e = ap (λ b. cond b seen (seen ++ v ∷ [])) e

noted-new : (seen : List (ℕ × SortId)) (v : ℕ × SortId) → list_any (λ w. w.0 == v.0) seen ≡ false
    → noted seen v ≡ seen ++ v ∷ []
noted-new seen v e = ap (λ b. cond b seen (seen ++ v ∷ [])) e

noted-more : (seen : List (ℕ × SortId)) (v : ℕ × SortId) → (more : List (ℕ × SortId)) × (noted seen v ≡ seen ++ more)
noted-more seen v = ⊎_elim
    (λ known. ([], noted-known seen v known ∙ sym (append-nil seen)))
    (λ new. (v ∷ [], noted-new seen v new))
    (true_or_false (list_any (λ w. w.0 == v.0) seen))

-- what was seen first stays first
new_in-more : (seen vs : List (ℕ × SortId)) → (more : List (ℕ × SortId)) × (new_in seen vs ≡ seen ++ more)
new_in-more seen [] = ([], sym (append-nil seen))
new_in-more seen (v ∷ vs) =
    let a : (more : List (ℕ × SortId)) × (noted seen v ≡ seen ++ more) = noted-more seen v in
    let b : (more : List (ℕ × SortId)) × (new_in (noted seen v) vs ≡ noted seen v ++ more)
    = new_in-more (noted seen v) vs in
    (a.0 ++ b.0, b.1 ∙ ap (λ ws. ws ++ b.0) a.1 ∙ append_assoc seen a.0 b.0)

-- ---- values by number

-- what stands for a variable that has no value
abbrev pub zero : Term
zero = int_term (pos 0)

pub bound-at : (k : ℕ) (vs : List (ℕ × SortId)) (ts : List Term) (x : ℕ) → AreNumbered k vs → length vs ≡ length ts
    → k ≤ x → bound vs ts x ≡ get_or ts (x - k) (int_term (pos 0))
bound-at k [] [] x h l le = refl
bound-at k [] (t ∷ ts) x h l le = absurd (omega arith)
bound-at k (v ∷ vs) [] x h l le = absurd (omega arith)
bound-at k (v ∷ vs) (t ∷ ts) x h l le = ⊎_elim
    (λ here. let a : v.0 ≡ k = h.0 in let b : v.0 ≡ x = eqb-true v.0 x here in let none : x - k ≡ 0 = omega arith in
    ap (λ b. cond b t (bound vs ts x)) here ∙ sym (ap (λ i. get_or (t ∷ ts) i zero) none))
    (λ other. let a : v.0 ≡ k = h.0 in
    let apart : v.0 ≡ x → ⊥ = λ e. not_true (sym (eq-eqb v.0 x e) ∙ other) in
    let above : suc k ≤ x = beyond v.0 k x a le apart in
    let next : x - k ≡ suc (x - suc k) = omega arith in
    ap (λ b. cond b t (bound vs ts x)) other ∙ bound-at (suc k) vs ts x h.1 (omega arith) above
    ∙ sym (ap (λ i. get_or (t ∷ ts) i zero) next))
    (true_or_false (v.0 == x))
  where
    beyond : (v k x : ℕ) → v ≡ k → k ≤ x → (v ≡ x → ⊥) → suc k ≤ x
    beyond v k x e le apart = omega arith

-- ---- lists beside one another

module _ {A B : Type 0} (R : A → B → Type 0) where
  zip_push : (xs : List A) (ys : List B) (x : A) (y : B) → AllZip R xs ys → R x y
      → AllZip R (xs ++ x ∷ []) (ys ++ y ∷ [])
  zip_push [] [] x y h r = (r, tt)
  zip_push [] (b ∷ ys) x y h r = absurd h
  zip_push (a ∷ xs) [] x y h r = absurd h
  zip_push (a ∷ xs) (b ∷ ys) x y h r = (h.0, zip_push xs ys x y h.1 r)

  zip_at : (xs xs' : List A) (ys ys' : List B) (x : A) (y : B) → length xs ≡ length ys
      → AllZip R (xs ++ x ∷ xs') (ys ++ y ∷ ys') → R x y
  zip_at [] xs' [] ys' x y l h = h.0
  zip_at [] xs' (b ∷ ys) ys' x y l h = absurd (omega arith)
  zip_at (a ∷ xs) xs' [] ys' x y l h = absurd (omega arith)
  zip_at (a ∷ xs) xs' (b ∷ ys) ys' x y l h = zip_at xs xs' ys ys' x y (omega arith) h.1

  pub zip_length : (xs : List A) (ys : List B) → AllZip R xs ys → length xs ≡ length ys
  zip_length [] [] h = refl
  zip_length [] (b ∷ ys) h = absurd h
  zip_length (a ∷ xs) [] h = absurd h
  zip_length (a ∷ xs) (b ∷ ys) h = ap suc (zip_length xs ys h.1)

-- ---- sorts

has_sort-sorted : (shapes : Shapes) (t : Term) (s : SortId) → has_sort shapes s t ≡ true → HasSort shapes t s
unfolding has_sort
has_sort-sorted shapes t s e = is_sort-some (sort_of shapes t) s e

sorted-has_sort : (shapes : Shapes) (t : Term) (s : SortId) → HasSort shapes t s → has_sort shapes s t ≡ true
unfolding has_sort
sorted-has_sort shapes t s e = ap (λ q. is_sort q s) e ∙ eq-eqb s.0 s.0 refl

-- ---- the values that are found

-- where the one before gave a value
given : {A B : Type 0} (f : A → Option B) (b : Bool) (x : A) (y : B) → option_and_then f (cond b (Some x) None) ≡ Some y
    → (b ≡ true) × (f x ≡ Some y)
given f true x y e = (refl, e)
given f false x y e = absurd (none-some y e)

-- a term has the sort of a variable
abbrev pub Sorted : Shapes → ℕ × SortId → Term → Type 0
Sorted shapes v u = HasSort shapes u v.1

module _ (shapes : Shapes) (first : ℕ) (all : List (ℕ × SortId)) (numbered : AreNumbered first all) where
  -- the value of a variable that is in this place
  abbrev pub Stands : List Term → ℕ × SortId → Term → Type 0
  Stands values v u = (first ≤ v.0) × (get_or values (v.0 - first) zero ≡ u)

  -- what is known of the values that were found
  pub record Valued (P : Term → Type 0) (before : List Term) (vs : List (ℕ × SortId)) (us values : List Term) : Type 0 where
    pub sorted : AllZip (Sorted shapes) all values
    pub kept : (more : List Term) × (values ≡ before ++ more)
    pub stand : AllZip (Stands values) vs us
    pub have : AllOf P values

  -- the variables that were seen, among all
  seen_numbered : (seen vs : List (ℕ × SortId)) → new_in seen vs ≡ all → AreNumbered first seen
  seen_numbered seen vs e = let m : (more : List (ℕ × SortId)) × (new_in seen vs ≡ seen ++ more)
      = new_in-more seen vs in
      numbered_first first seen m.0 (subst (AreNumbered first) (sym e ∙ m.1) numbered)

  module _ (P : Term → Type 0) where
    pub found_are : (seen vs : List (ℕ × SortId)) (us before values : List Term) → new_in seen vs ≡ all
        → length before ≡ length seen → AllZip (Sorted shapes) seen before → AllOf P before → AllOf P us
        → with_places shapes first before vs us ≡ Some values → Valued P before vs us values
    found_are seen [] [] before values e l s h k w =
        let is : before ≡ values = same_Some before values w in
        record {
          sorted = subst (AllZip (Sorted shapes) all) is (subst (λ ws. AllZip (Sorted shapes) ws before) e s);
          kept = ([], sym is ∙ sym (append-nil before));
          stand = tt;
          have = subst (AllOf P) is h;
        }
    found_are seen [] (u ∷ us) before values e l s h k w = absurd (none-some values w)
    found_are seen (v ∷ vs) [] before values e l s h k w = absurd (none-some values w)
    found_are seen (v ∷ vs) (u ∷ us) before values e l s h k w = ⊎_elim
        (λ known.
        let e' : new_in seen vs ≡ all = sym (ap (λ ws. new_in ws vs) (noted-known seen v known)) ∙ e in
        let n : (first ≤ v.0) × (v.0 < first + length seen)
        = known_within first v.0 seen (seen_numbered seen vs e') known in
        let within : v.0 - first < length before = omega arith in
        let own : Term = get_or before (v.0 - first) zero in
        let g : (same own u ≡ true) × (with_places shapes first before vs us ≡ Some values)
        = given (λ more. with_places shapes first more vs us) (same own u) before values
        (sym (ap (λ o. option_and_then (λ more. with_places shapes first more vs us) (with_value before o (has_sort shapes v.1 u) u)) (slice_get-get_or before (v.0 - first) zero within)) ∙ w) in
        let r : Valued P before vs us values = found_are seen vs us before values e' l s h k.1 g.1 in
        let same_place : get_or values (v.0 - first) zero ≡ own = ap (λ ts. get_or ts (v.0 - first) zero) r.kept.1
        ∙ get_or_append_left before r.kept.0 zero (v.0 - first) within in
        record { sorted = r.sorted; kept = r.kept; stand = ((n.0, same_place ∙ same-equal own u g.0), r.stand); have = r.have })
        (λ new.
        let e' : new_in (seen ++ v ∷ []) vs ≡ all = sym (ap (λ ws. new_in ws vs) (noted-new seen v new)) ∙ e in
        let n : v.0 ≡ first + length seen = numbered_next first seen v (seen_numbered (seen ++ v ∷ []) vs e') in
        let past : length before ≤ v.0 - first = omega arith in
        let place : length before ≡ v.0 - first = omega arith in
        let g : (has_sort shapes v.1 u ≡ true) × (with_places shapes first (before ++ u ∷ []) vs us ≡ Some values)
        = given (λ more. with_places shapes first more vs us) (has_sort shapes v.1 u) (before ++ u ∷ []) values
        (sym (ap (λ o. option_and_then (λ more. with_places shapes first more vs us) (with_value before o (has_sort shapes v.1 u) u)) (slice_get_past before (v.0 - first) past)) ∙ w) in
        let long : length (before ++ u ∷ []) ≡ length (seen ++ v ∷ []) = length-append before (u ∷ [])
        ∙ ap (λ i. i + 1) l ∙ sym (length-append seen (v ∷ [])) in
        let r : Valued P (before ++ u ∷ []) vs us values
        = found_are (seen ++ v ∷ []) vs us (before ++ u ∷ []) values e' long
        (zip_push (Sorted shapes) seen before v u s (has_sort-sorted shapes u v.1 g.0)) (all_append P before (u ∷ []) h (k.0, tt)) k.1 g.1 in
        let more : values ≡ before ++ (u ∷ r.kept.0) = r.kept.1 ∙ append_assoc before (u ∷ []) r.kept.0 in
        let low : first ≤ v.0 = omega arith in
        record { sorted = r.sorted; kept = (u ∷ r.kept.0, more); stand = ((low, ap (λ ts. get_or ts (v.0 - first) zero) more ∙ get_or_at before u r.kept.0 zero (v.0 - first) place), r.stand); have = r.have })
        (true_or_false (list_any (λ w. w.0 == v.0) seen))

  pub stand-agree : (values : List Term) → AllZip (Sorted shapes) all values → (vs : List (ℕ × SortId)) (us : List Term)
      → AllZip (Stands values) vs us → Agree (bound all values) vs us
  stand-agree values s [] [] h = tt
  stand-agree values s [] (u ∷ us) h = absurd h
  stand-agree values s (v ∷ vs) [] h = absurd h
  stand-agree values s (v ∷ vs) (u ∷ us) h
      = (bound-at first all values v.0 numbered (zip_length (Sorted shapes) all values s) h.0.0 ∙ h.0.1, stand-agree values s vs us h.1)

  -- ---- no others

  module _ (values : List Term) (sorted : AllZip (Sorted shapes) all values) where
    place_is : (x : ℕ) → first ≤ x → bound all values x ≡ get_or values (x - first) zero
    place_is x le = bound-at first all values x numbered (zip_length (Sorted shapes) all values sorted) le

    pub are_found : (seen vs : List (ℕ × SortId)) (us before rest : List Term) → new_in seen vs ≡ all
        → length before ≡ length seen → values ≡ before ++ rest → Agree (bound all values) vs us
        → with_places shapes first before vs us ≡ Some values
    are_found seen [] [] before rest e l is h =
        let a : length all ≡ length values = zip_length (Sorted shapes) all values sorted in
        let b : length values ≡ length before + length rest = ap length is ∙ length-append before rest in
        let c : length seen ≡ length all = ap length e in
        let none : rest ≡ [] = nil_from_length rest (omega arith) in
        ap Some (sym (is ∙ ap (λ ts. before ++ ts) none ∙ append-nil before))
    are_found seen [] (u ∷ us) before rest e l is h = absurd h
    are_found seen (v ∷ vs) [] before rest e l is h = absurd h
    are_found seen (v ∷ vs) (u ∷ us) before rest e l is h = ⊎_elim
        (λ known.
        let e' : new_in seen vs ≡ all = sym (ap (λ ws. new_in ws vs) (noted-known seen v known)) ∙ e in
        let n : (first ≤ v.0) × (v.0 < first + length seen)
        = known_within first v.0 seen (seen_numbered seen vs e') known in
        let within : v.0 - first < length before = omega arith in
        let own : Term = get_or before (v.0 - first) zero in
        let is_own : own ≡ u = sym (get_or_append_left before rest zero (v.0 - first) within)
        ∙ sym (ap (λ ts. get_or ts (v.0 - first) zero) is) ∙ sym (place_is v.0 n.0) ∙ h.0 in
        ap (λ o. option_and_then (λ more. with_places shapes first more vs us) (with_value before o (has_sort shapes v.1 u) u)) (slice_get-get_or before (v.0 - first) zero within)
        ∙ ap (λ b. option_and_then (λ more. with_places shapes first more vs us) (cond b (Some before) None)) (equal-same own u is_own)
        ∙ are_found seen vs us before rest e' l is h.1)
        (λ new.
        let e' : new_in (seen ++ v ∷ []) vs ≡ all = sym (ap (λ ws. new_in ws vs) (noted-new seen v new)) ∙ e in
        let n : v.0 ≡ first + length seen = numbered_next first seen v (seen_numbered (seen ++ v ∷ []) vs e') in
        let past : length before ≤ v.0 - first = omega arith in
        let place : length before ≡ v.0 - first = omega arith in
        let low : first ≤ v.0 = omega arith in
        let m : (more : List (ℕ × SortId)) × (new_in (seen ++ v ∷ []) vs ≡ (seen ++ v ∷ []) ++ more)
        = new_in-more (seen ++ v ∷ []) vs in
        let whole : all ≡ seen ++ (v ∷ m.0) = sym e' ∙ m.1 ∙ append_assoc seen (v ∷ []) m.0 in
        let a : length all ≡ length values = zip_length (Sorted shapes) all values sorted in
        let b : length values ≡ length before + length rest = ap length is ∙ length-append before rest in
        let c : length all ≡ length seen + length (v ∷ m.0) = ap length whole ∙ length-append seen (v ∷ m.0) in
        let r : (t : Term) × (ts : List Term) × (rest ≡ t ∷ ts) = begins rest (omega arith) in
        let is_first : values ≡ before ++ (r.0 ∷ r.1) = is ∙ ap (λ ts. before ++ ts) r.2 in
        let is_here : r.0 ≡ u = sym (get_or_at before r.0 r.1 zero (v.0 - first) place)
        ∙ sym (ap (λ ts. get_or ts (v.0 - first) zero) is_first) ∙ sym (place_is v.0 low) ∙ h.0 in
        let is_next : values ≡ before ++ (u ∷ r.1) = is_first ∙ ap (λ t. before ++ (t ∷ r.1)) is_here in
        let has : HasSort shapes u v.1
        = zip_at (Sorted shapes) seen m.0 before r.1 v u (sym l) (subst (λ ts. AllZip (Sorted shapes) (seen ++ (v ∷ m.0)) ts) is_next (subst (λ ws. AllZip (Sorted shapes) ws values) whole sorted)) in
        let long : length (before ++ u ∷ []) ≡ length (seen ++ v ∷ []) = length-append before (u ∷ [])
        ∙ ap (λ i. i + 1) l ∙ sym (length-append seen (v ∷ [])) in
        ap (λ o. option_and_then (λ more. with_places shapes first more vs us) (with_value before o (has_sort shapes v.1 u) u)) (slice_get_past before (v.0 - first) past)
        ∙ ap (λ b. option_and_then (λ more. with_places shapes first more vs us) (cond b (Some (before ++ u ∷ [])) None)) (sorted-has_sort shapes u v.1 has)
        ∙ are_found (seen ++ v ∷ []) vs us (before ++ u ∷ []) r.1 e' long (is_next ∙ sym (append_assoc before (u ∷ []) r.1)) h.1)
        (true_or_false (list_any (λ w. w.0 == v.0) seen))
      where
        begins : (ts : List Term) → 1 ≤ length ts → (t : Term) × (us : List Term) × (ts ≡ t ∷ us)
        begins [] le = absurd (omega arith)
        begins (t ∷ ts) le = (t, ts, refl)

-- ---- one place after the other

pub first_of_two : {A B C : Type 0} (both : A → Option C) (one : A → Option B) (other : B → Option C)
    → ((x : A) → both x ≡ option_and_then other (one x)) → (o : Option A)
    → option_and_then both o ≡ option_and_then other (option_and_then one o)
first_of_two both one other f None = refl
first_of_two both one other f (Some x) = f x

module _ (shapes : Shapes) (first : ℕ) where
  pub with_places-append : (before : List Term) (vs ws : List (ℕ × SortId)) (us ts : List Term) → length vs ≡ length us
      → with_places shapes first before (vs ++ ws) (us ++ ts) ≡ option_and_then (λ more. with_places shapes first more ws ts) (with_places shapes first before vs us)
  with_places-append before [] ws [] ts l = refl
  with_places-append before [] ws (u ∷ us) ts l = absurd (omega arith)
  with_places-append before (v ∷ vs) ws [] ts l = absurd (omega arith)
  with_places-append before (v ∷ vs) ws (u ∷ us) ts l =
      first_of_two (λ more. with_places shapes first more (vs ++ ws) (us ++ ts)) (λ more. with_places shapes first more vs us) (λ more. with_places shapes first more ws ts)
      (λ more. with_places-append more vs ws us ts (omega arith)) (with_value before (slice_get before (v.0 - first)) (has_sort shapes v.1 u) u)
