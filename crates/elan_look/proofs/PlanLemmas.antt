-- Bounds and matches.
use Rattle.std.proofs.Common.{◌≡◌, refl, sym, ap, ◌∙◌, inl, inr, ⊎_elim, subst, ℕ, zero, suc, ◌+◌, ◌-◌, ◌<◌, ◌≤◌, ◌==◌, eq-eqb, ne_eqb, nat_lt, ltb-true, lt-ltb, Bool, true, false, cond, ◌&&◌, not, Decides, Option, Some, None, List, [], ◌∷◌, ◌++◌, length, slice_get, get_or, is_some, option_and_then, All, Contains, append-nil, arith}
use Rattle.std.specs.List.{AllZip, list_all}
use Rattle.std.proofs.lemmas.Bool.{cases_lt}
use Rattle.std.proofs.lemmas.Option.{slice_get-get_or}
use Rattle.boxcar.specs.Table.{Where}
use Rattle.elan_terms.specs.declared.tree.SortId.{SortId}
use Rattle.elan_terms.specs.declared.tree.Term.{Term}
use Rattle.elan_terms.specs.declared.tree.Pattern.{Pattern}
use Rattle.elan_terms.specs.declared.tree.Shapes.{Shapes}
use Rattle.elan_terms.specs.Match.{occurrences, variables, bound, instance, matches}
use Rattle.elan_terms.specs.Valid.{HasSort}
use Rattle.elan_terms.proofs.Lists.{AllOf, Pairs, In, all_from, all_map}
use Rattle.elan_terms.proofs.Sorting.{not_true}
use Rattle.elan_table.specs.Rows.{MayStand, terms}
use Rattle.elan_match.specs.Plain.{AreNumbered}
use Rattle.elan_arms.specs.Arms.{app_pattern}
use Rattle.elan_arms.specs.Values.{IsProper, MayMean, Makes}
use Rattle.elan_arms.proofs.Patterns.{var_pattern, int_pattern, ind_pattern, occurrences-of_var, occurrences-of_app}
use Rattle.elan_arms.proofs.Agreement.{Differ, all_each, all-variables, variables-differ, agree_on-variables}
use Rattle.elan_arms.proofs.Found.{Stands, bound-stands, matches-made}
use Rattle.elan_search.specs.Bounds.{term_if, GoesOn, IsBound}
use Rattle.elan_search.specs.Bounds as search
use Rattle.elan_look.specs.declared.low.Low.{Low}
use Rattle.elan_look.specs.declared.low.Low.TheVariants.{Empty, Any, At}
use Rattle.elan_look.specs.declared.sight.Sight.{Sight}
use Rattle.elan_look.specs.declared.plan.Plan.{Plan}
use Rattle.elan_look.specs.Lows.{is_empty, is_any}
use Rattle.elan_look.specs.Sights.{value_at, is_given, seeks}
use Rattle.elan_shares.specs.Shares.{After}
use Rattle.elan_look.specs.Tells.{sought_value, Knows, Agrees, Allows, Tells, SaysIf}
use Rattle.elan_look.specs.Tells as tell
use Rattle.elan_look.specs.Plans.{all_there, HaveSorts, IsPlan, matches_of}
use Rattle.elan_look.proofs.SightLemmas.{given-var, given-int, given-app}
use Rattle.elan_look.proofs.SayLemmas.{variable_sought}

-- ---- values of all variables, and another term for those that are none

abbrev pub bound_or : Term → List (ℕ × SortId) → List Term → ℕ → Term
bound_or t [] us x = t
bound_or t (v ∷ vs) [] x = t
bound_or t (v ∷ vs) (u ∷ us) x = cond (v.0 == x) u (bound_or t vs us x)

either_holds : (P : Term → Type 0) (b : Bool) (t u : Term) → P t → P u → P (cond b t u)
either_holds P true t u h k = h
either_holds P false t u h k = k

bound_or-all : (P : Term → Type 0) (t : Term) (vs : List (ℕ × SortId)) (us : List Term) (x : ℕ) → P t → AllOf P us → P (bound_or t vs us x)
bound_or-all P t [] us x h k = h
bound_or-all P t (v ∷ vs) [] x h k = h
bound_or-all P t (v ∷ vs) (u ∷ us) x h k = either_holds P (v.0 == x) u (bound_or t vs us x) k.0 (bound_or-all P t vs us x h k.1)

-- the value of the variable in a place
value_in : (t : Term) (k i : ℕ) (vs : List (ℕ × SortId)) (us : List Term) (u : Term) → AreNumbered k vs → length vs ≡ length us → slice_get us i ≡ Some u → bound_or t vs us (k + i) ≡ u
value_in t k i [] [] u n l e = absurd (never e)
  where
    never : None ≡ Some u → ⊥
    never f = cc
value_in t k i [] (w ∷ us) u n l e = absurd (omega arith)
value_in t k i (v ∷ vs) [] u n l e = absurd (omega arith)
value_in t k zero (v ∷ vs) (w ∷ us) u n l e =
    let first : v.0 ≡ k = n.0 in let here : v.0 ≡ k + 0 = omega arith in
    ap (λ b. cond b w (bound_or t vs us (k + 0))) (eq-eqb v.0 (k + 0) here) ∙ same_some e
  where
    same_some : Some w ≡ Some u → w ≡ u
    same_some f = cc
value_in t k (suc i) (v ∷ vs) (w ∷ us) u n l e =
    let first : v.0 ≡ k = n.0 in let next : k + suc i ≡ suc k + i = omega arith in
    ap (λ b. cond b w (bound_or t vs us (k + suc i))) (ne_eqb v.0 (k + suc i) (λ f. further v.0 k i first f))
    ∙ ap (bound_or t vs us) next ∙ value_in t (suc k) i vs us u n.1 (omega arith) e
  where
    further : (x k i : ℕ) → x ≡ k → x ≡ k + suc i → ⊥
    further x k i e f = omega arith

zip_long : {A B : Type 0} (R : A → B → Type 0) (xs : List A) (ys : List B) → AllZip R xs ys → length xs ≡ length ys
zip_long R [] [] h = refl
zip_long R [] (y ∷ ys) h = absurd h
zip_long R (x ∷ xs) [] h = absurd h
zip_long R (x ∷ xs) (y ∷ ys) h = ap suc (zip_long R xs ys h.1)

bound_or-from : (t : Term) (value other : ℕ → Term) (vs : List (ℕ × SortId)) (us : List Term) → AllOf (λ v. other v.0 ≡ value v.0) vs → AllZip (Stands value) vs us → AllZip (Stands other) vs us
bound_or-from t value other [] [] h k = tt
bound_or-from t value other [] (u ∷ us) h k = absurd k
bound_or-from t value other (v ∷ vs) [] h k = absurd k
bound_or-from t value other (v ∷ vs) (u ∷ us) h k = (h.0 ∙ k.0, bound_or-from t value other vs us h.1 k.1)

bound_or-stands : (t : Term) (vs : List (ℕ × SortId)) (us : List Term) → Pairs Differ vs → length vs ≡ length us → AllZip (Stands (bound_or t vs us)) vs us
bound_or-stands t [] [] d l = tt
bound_or-stands t [] (u ∷ us) d l = absurd (omega arith)
bound_or-stands t (v ∷ vs) [] d l = absurd (omega arith)
bound_or-stands t (v ∷ vs) (u ∷ us) d l = (
  ap (λ b. cond b u (bound_or t vs us v.0)) (eq-eqb v.0 v.0 refl),
  bound_or-from t (bound_or t vs us) (bound_or t (v ∷ vs) (u ∷ us)) vs us (all_map (Differ v) (λ w. bound_or t (v ∷ vs) (u ∷ us) w.0 ≡ bound_or t vs us w.0) (λ w e. ap (λ b. cond b u (bound_or t vs us w.0)) e) vs d.0)
      (bound_or-stands t vs us d.1 (omega arith)),
)

zip_agree : (value other : ℕ → Term) (vs : List (ℕ × SortId)) (us : List Term) → AllZip (Stands value) vs us → AllZip (Stands other) vs us → AllOf (λ v. value v.0 ≡ other v.0) vs
zip_agree value other [] [] h k = tt
zip_agree value other [] (u ∷ us) h k = absurd h
zip_agree value other (v ∷ vs) [] h k = absurd h
zip_agree value other (v ∷ vs) (u ∷ us) h k = (h.0 ∙ sym k.0, zip_agree value other vs us h.1 k.1)

-- what stands in a place beside another
zip_at : {A : Type 0} (R : A → Term → Type 0) (xs : List A) (ys : List Term) (i : ℕ) (x : A) (y : Term) → AllZip R xs ys → slice_get xs i ≡ Some x → slice_get ys i ≡ Some y → R x y
zip_at {A = A} R [] ys i x y h e f = absurd (never e)
  where
    never : None ≡ Some x → ⊥
    never k = cc
zip_at R (a ∷ xs) [] i x y h e f = absurd h
zip_at {A = A} R (a ∷ xs) (b ∷ ys) zero x y h e f = subst (R x) (same_term f) (subst (λ c. R c b) (same_item e) h.0)
  where
    same_item : Some a ≡ Some x → a ≡ x
    same_item k = cc

    same_term : Some b ≡ Some y → b ≡ y
    same_term k = cc
zip_at R (a ∷ xs) (b ∷ ys) (suc i) x y h e f = zip_at R xs ys i x y h.1 e f

proper_all : (shapes : Shapes) (vs : List (ℕ × SortId)) (us : List Term) → AllZip (MayMean shapes) vs us → AllOf (IsProper shapes) us
proper_all shapes [] [] h = tt
proper_all shapes [] (u ∷ us) h = absurd h
proper_all shapes (v ∷ vs) [] h = absurd h
proper_all shapes (v ∷ vs) (u ∷ us) h = (h.0.proper, proper_all shapes vs us h.1)

-- ---- rows that are known

-- the term in a place of the rows that begin a list
there_in : (done : List (Where Term)) (rest : List Term) (i : ℕ) (row : Where Term) → option_and_then (λ known. known) (slice_get (all_there done) i) ≡ Some row → slice_get (terms done ++ rest) i ≡ Some row.value
there_in [] rest i row e = absurd (never e)
  where
    never : None ≡ Some row → ⊥
    never f = cc
there_in (w ∷ done) rest zero row e = ap (λ (v : Where Term). Some v.value) (same_some e)
  where
    same_some : Some w ≡ Some row → w ≡ row
    same_some f = cc
there_in (w ∷ done) rest (suc i) row e = there_in done rest i row e

known_place : {X : Type 0} (first x : ℕ) (o : Option X) (row : X) → cond (nat_lt x first) None o ≡ Some row → (first ≤ x) × (o ≡ Some row)
known_place first x o row e = by_test (nat_lt x first) refl e
  where
    by_test : (b : Bool) → nat_lt x first ≡ b → cond b None o ≡ Some row → (first ≤ x) × (o ≡ Some row)
    by_test true is f = absurd (never f)
      where
        never : None ≡ Some row → ⊥
        never g = cc
    by_test false is f = (⊎_elim (λ lt. not_true (sym (lt-ltb x first lt) ∙ is)) (λ le. le) (cases_lt x first), f)

next_in : (done : List Term) (u : Term) (rest : List Term) → slice_get (done ++ u ∷ rest) (length done) ≡ Some u
next_in [] u rest = refl
next_in (d ∷ done) u rest = next_in done u rest

module _ {N : Type 0} (shapes : Shapes) (s : Sight N) (vs : List (ℕ × SortId)) (done : List (Where Term)) (numbered : AreNumbered s.first vs) (known : s.known ≡ all_there done) where
  -- values of a list that begins with the rows are as they are known
  pub list-knows : (t : Term) (rest : List Term) → length vs ≡ length (terms done ++ rest) → Knows s (bound_or t vs (terms done ++ rest))
  list-knows t rest l x row e =
      let k : (s.first ≤ x) × (option_and_then (λ known. known) (slice_get s.known (x - s.first)) ≡ Some row) = known_place s.first x _ row e in
      let place : s.first + (x - s.first) ≡ x = omega arith in
      ap (bound_or t vs (terms done ++ rest)) (sym place)
      ∙ value_in t s.first (x - s.first) vs (terms done ++ rest) row.value numbered l
      (there_in done rest (x - s.first) row (ap (λ ks. option_and_then (λ known. known) (slice_get ks (x - s.first))) (sym known) ∙ k.1))

-- ---- a match agrees with what is known

module _ {N : Type 0} (shapes : Shapes) (p : Pattern) (t : Term) (proper : IsProper shapes t) (s : Sight N) (done : List (Where Term)) (numbered : AreNumbered s.first (variables p)) (known : s.known ≡ all_there done) where
  -- the values of a match, and the term for all others
  abbrev ValueOf : List Term → ℕ → Term
  ValueOf a = bound_or t (variables p) a

  match_stands : (a : List Term) → AllZip (MayMean shapes) (variables p) a → AllZip (Stands (ValueOf a)) (variables p) a
  match_stands a h = bound_or-stands t (variables p) a (variables-differ p) (zip_long (MayMean shapes) (variables p) a h)

  pub match-instance : (a : List Term) → AllZip (MayMean shapes) (variables p) a → instance shapes (bound_or t (variables p) a) p ≡ instance shapes (bound (variables p) a) p
  match-instance a h = agree_on-variables shapes (ValueOf a) (bound (variables p) a) p (all_from (λ v. ValueOf a v.0 ≡ bound (variables p) a v.0) (variables p)
      (zip_agree (ValueOf a) (bound (variables p) a) (variables p) a (match_stands a h) (bound-stands (MayMean shapes) (variables p) a (variables-differ p) h)))

  match_proper : (a : List Term) → AllZip (MayMean shapes) (variables p) a → (x : ℕ) → IsProper shapes (ValueOf a x)
  match_proper a h x = bound_or-all (IsProper shapes) t (variables p) a x proper (proper_all shapes (variables p) a h)

  -- with no variable that is sought
  pub whole-agrees : (rest : List Term) → s.sought ≡ None → AllZip (MayMean shapes) (variables p) (terms done ++ rest) → Agrees shapes s (bound_or t (variables p) (terms done ++ rest))
  whole-agrees rest none h = record {
    proper = match_proper (terms done ++ rest) h;
    known = list-knows shapes s (variables p) done numbered known t rest (zip_long (MayMean shapes) (variables p) (terms done ++ rest) h);
    sought = subst (λ o. tell.HasAfter shapes o s.floor (ValueOf (terms done ++ rest))) (sym none) tt;
  }

  value_next : (v : ℕ × SortId) (u : Term) (rest : List Term) → slice_get (variables p) (length done) ≡ Some v → AllZip (MayMean shapes) (variables p) (terms done ++ u ∷ rest) → ValueOf (terms done ++ u ∷ rest) v.0 ≡ u
  value_next v u rest e h = zip_at (Stands (ValueOf (terms done ++ u ∷ rest))) (variables p) (terms done ++ u ∷ rest) (length done) v u (match_stands (terms done ++ u ∷ rest) h) e
      (ap (slice_get (terms done ++ u ∷ rest)) (rows_long done) ∙ next_in (terms done) u rest)
    where
      rows_long : (ws : List (Where Term)) → length ws ≡ length (terms ws)
      rows_long [] = refl
      rows_long (w ∷ ws) = ap suc (rows_long ws)

  -- with the next variable sought
  pub next-agrees : (v : ℕ × SortId) (u : Term) (rest : List Term) → s.sought ≡ Some v → slice_get (variables p) (length done) ≡ Some v → AllZip (MayMean shapes) (variables p) (terms done ++ u ∷ rest) → After s.floor u
      → Agrees shapes s (bound_or t (variables p) (terms done ++ u ∷ rest))
  next-agrees v u rest is e h after = record {
    proper = match_proper (terms done ++ u ∷ rest) h;
    known = list-knows shapes s (variables p) done numbered known t (u ∷ rest) (zip_long (MayMean shapes) (variables p) (terms done ++ u ∷ rest) h);
    sought = subst (λ o. tell.HasAfter shapes o s.floor (ValueOf (terms done ++ u ∷ rest))) (sym is)
        (subst (λ w. HasSort shapes w v.1 × After s.floor w) (sym (value_next v u rest e h))
        ((zip_at (MayMean shapes) (variables p) (terms done ++ u ∷ rest) (length done) v u h e (ap (slice_get (terms done ++ u ∷ rest)) (rows_long done) ∙ next_in (terms done) u rest)).sorted, after));
  }
    where
      rows_long : (ws : List (Where Term)) → length ws ≡ length (terms ws)
      rows_long [] = refl
      rows_long (w ∷ ws) = ap suc (rows_long ws)

  -- the bound allows the next value of a match
  pub next-allowed : (v : ℕ × SortId) (u : Term) (low : Low N) → s.sought ≡ Some v → slice_get (variables p) (length done) ≡ Some v → Tells shapes s (is_given s p) (tell.Makes shapes p t) low
      → GoesOn (matches shapes p t) (terms done) u → After s.floor u → Allows low u
  unfolding tell.Makes
  next-allowed v u low is e h goes after =
      let m : Makes shapes p t (terms done ++ u ∷ goes.0) = (matches-made shapes p t proper (terms done ++ u ∷ goes.0)).0 goes.1 in
      let value : ℕ → Term = ValueOf (terms done ++ u ∷ goes.0) in
      subst (Allows low) (ap (λ o. sought_value o value) is ∙ value_next v u goes.0 e m.given)
      (h.prunes value (next-agrees v u goes.0 is e m.given after) (match-instance (terms done ++ u ∷ goes.0) m.given ∙ m.is))

-- ---- whether values are a match

sorted_given : (shapes : Shapes) (vs : List (ℕ × SortId)) (rows : List (Where Term)) → All (λ row. MayStand shapes row.value) rows → HaveSorts shapes vs rows → AllZip (MayMean shapes) vs (terms rows)
sorted_given shapes [] [] k h = tt
sorted_given shapes [] (w ∷ rows) k h = absurd h
sorted_given shapes (v ∷ vs) [] k h = absurd h
sorted_given shapes (v ∷ vs) (w ∷ rows) k h =
    let row : MayStand shapes w.value = k 0 w (omega arith) in
    (record { proper = record { valid = row.valid; canonical = row.canonical }; sorted = h.0 }, sorted_given shapes vs rows (λ i d lt. k (suc i) d (omega arith)) h.1)

given_sorted : (shapes : Shapes) (vs : List (ℕ × SortId)) (rows : List (Where Term)) → AllZip (MayMean shapes) vs (terms rows) → HaveSorts shapes vs rows
given_sorted shapes [] [] h = tt
given_sorted shapes [] (w ∷ rows) h = absurd h
given_sorted shapes (v ∷ vs) [] h = absurd h
given_sorted shapes (v ∷ vs) (w ∷ rows) h = (h.0.sorted, given_sorted shapes vs rows h.1)

-- where each variable has a known value, all values of the pattern are known
module _ {N : Type 0} (s : Sight N) where
  abbrev Known : ℕ × SortId → Type 0
  Known v = is_some (value_at s v.0) ≡ true

  abbrev AllKnown : Pattern → Type 0
  AllKnown p = AllOf Known (occurrences p) → is_given s p ≡ true

  each_known : (ps : List Pattern) → AllOf AllKnown ps → AllOf (λ p. AllOf Known (occurrences p)) ps → list_all (is_given s) ps ≡ true
  each_known [] h k = refl
  each_known (p ∷ ps) h k = ap (λ b. b && list_all (is_given s) ps) (h.0 k.0) ∙ each_known ps h.1 k.1

  pub known-given : (p : Pattern) → AllOf (λ v. is_some (value_at s v.0) ≡ true) (occurrences p) → is_given s p ≡ true
  known-given = ind_pattern AllKnown
      (λ x sort h. sym (given-var s (var_pattern x sort) x sort (value_at s x) refl refl) ∙ (subst (AllOf Known) (occurrences-of_var x sort) h).0)
      (λ z h. sym (given-int s (int_pattern z) z refl))
      (λ op ps h k. given-app s (app_pattern op ps) op ps refl ∙ each_known ps h (all_each Known occurrences ps (subst (AllOf Known) (occurrences-of_app op ps) k)))

place_of : (first x : ℕ) (o : Option (Where Term)) → first ≤ x → cond (nat_lt x first) None o ≡ o
place_of first x o le = by_test (nat_lt x first) refl
  where
    by_test : (b : Bool) → nat_lt x first ≡ b → cond b None o ≡ o
    by_test true is = let lt : x < first = ltb-true x first is in absurd (omega arith)
    by_test false is = refl

there_some : (done : List (Where Term)) (i : ℕ) → i < length done → is_some (option_and_then (λ known. known) (slice_get (all_there done) i)) ≡ true
there_some [] i lt = absurd (omega arith)
there_some (w ∷ done) zero lt = refl
there_some (w ∷ done) (suc i) lt = there_some done i (omega arith)

numbers_within : (k many : ℕ) (vs : List (ℕ × SortId)) → AreNumbered k vs → length vs ≤ many → AllOf (λ v. (k ≤ v.0) × (v.0 < k + many)) vs
numbers_within k many [] n le = tt
numbers_within k many (v ∷ vs) n le =
    let here : v.0 ≡ k = n.0 in (
      (omega arith, omega arith),
      all_map (λ w. (suc k ≤ w.0) × (w.0 < suc k + (many - 1))) (λ w. (k ≤ w.0) × (w.0 < k + many))
          (λ w h. let a : suc k ≤ w.0 = h.0 in let b : w.0 < suc k + (many - 1) = h.1 in (omega arith, omega arith)) vs (numbers_within (suc k) (many - 1) vs n.1 (omega arith)),
    )

module _ {N : Type 0} (shapes : Shapes) (p : Pattern) (t : Term) (proper : IsProper shapes t) (s : Sight N) (done : List (Where Term)) (numbered : AreNumbered s.first (variables p)) (known : s.known ≡ all_there done)
    (none : s.sought ≡ None) (rows : All (λ row. MayStand shapes row.value) done) (many : length done ≡ length (variables p)) where
  whole_given : is_given s p ≡ true
  whole_given = known-given s p (all-variables (λ x. is_some (value_at s x) ≡ true) p
      (all_map (λ v. (s.first ≤ v.0) × (v.0 < s.first + length done)) (λ v. is_some (value_at s v.0) ≡ true)
      (λ v h. let le : s.first ≤ v.0 = h.0 in let lt : v.0 < s.first + length done = h.1 in
      ap is_some (place_of s.first v.0 _ le ∙ ap (λ ks. option_and_then (λ row. row) (slice_get ks (v.0 - s.first))) known) ∙ there_some done (v.0 - s.first) (omega arith))
      (variables p) (numbers_within s.first (length done) (variables p) numbered (omega arith))))

  nothing_more : (us : List Term) → us ++ [] ≡ us
  nothing_more us = append-nil us

  -- a match with these values has them of their sorts
  pub match-sorted : Contains (matches shapes p t) (terms done) → HaveSorts shapes (variables p) done
  match-sorted c = given_sorted shapes (variables p) done ((matches-made shapes p t proper (terms done)).0 c).given

  pub whole-match : (low : Low N) → HaveSorts shapes (variables p) done → Tells shapes s (is_given s p) (tell.Makes shapes p t) low → is_empty low ≡ false → Contains (matches shapes p t) (terms done)
  unfolding tell.Makes
  whole-match low sorts h n =
      let given : AllZip (MayMean shapes) (variables p) (terms done) = sorted_given shapes (variables p) done rows sorts in
      let all : AllZip (MayMean shapes) (variables p) (terms done ++ []) = subst (AllZip (MayMean shapes) (variables p)) (sym (nothing_more (terms done))) given in
      let made : instance shapes (bound_or t (variables p) (terms done ++ [])) p ≡ t = h.exact whole_given (bound_or t (variables p) (terms done ++ [])) (whole-agrees shapes p t proper s done numbered known [] none all).known n in
      (matches-made shapes p t proper (terms done)).1 (record {
        given = given;
        is = sym (match-instance shapes p t proper s done numbered known (terms done) given) ∙ ap (λ us. instance shapes (bound_or t (variables p) us) p) (sym (nothing_more (terms done))) ∙ made;
      })

  allows_some : (low : Low N) (u : Term) → Allows low u → is_empty low ≡ false
  allows_some Empty u h = absurd h
  allows_some Any u h = refl
  allows_some (At row) u h = refl

  pub match-whole : (low : Low N) → Tells shapes s (is_given s p) (tell.Makes shapes p t) low → Contains (matches shapes p t) (terms done) → is_empty low ≡ false
  unfolding tell.Makes
  match-whole low h c =
      let m : Makes shapes p t (terms done) = (matches-made shapes p t proper (terms done)).0 c in
      let all : AllZip (MayMean shapes) (variables p) (terms done ++ []) = subst (AllZip (MayMean shapes) (variables p)) (sym (nothing_more (terms done))) m.given in
      let value : ℕ → Term = bound_or t (variables p) (terms done ++ []) in
      allows_some low (sought_value s.sought value) (h.prunes value (whole-agrees shapes p t proper s done numbered known [] none all)
      (ap (λ us. instance shapes (bound_or t (variables p) us) p) (nothing_more (terms done)) ∙ match-instance shapes p t proper s done numbered known (terms done) m.given ∙ m.is))

-- ---- places

number_in : (k i : ℕ) (vs : List (ℕ × SortId)) (v : ℕ × SortId) → AreNumbered k vs → slice_get vs i ≡ Some v → v.0 ≡ k + i
number_in k i [] v n e = absurd (never e)
  where
    never : None ≡ Some v → ⊥
    never f = cc
number_in k zero (w ∷ vs) v n e = let first : w.0 ≡ k = n.0 in let same : w.0 ≡ v.0 = ap (λ (u : ℕ × SortId). u.0) (same_some e) in omega arith
  where
    same_some : Some w ≡ Some v → w ≡ v
    same_some f = cc
number_in k (suc i) (w ∷ vs) v n e = let later : v.0 ≡ suc k + i = number_in (suc k) i vs v n.1 e in omega arith

in_place : (vs : List (ℕ × SortId)) (i : ℕ) (v : ℕ × SortId) → slice_get vs i ≡ Some v → In v vs
in_place [] i v e = absurd (never e)
  where
    never : None ≡ Some v → ⊥
    never f = cc
in_place (w ∷ vs) zero v e = inl (sym (same_some e))
  where
    same_some : Some w ≡ Some v → w ≡ v
    same_some f = cc
in_place (w ∷ vs) (suc i) v e = inr (in_place vs i v e)

nothing_behind : (done : List (Where Term)) → option_and_then (λ row. row) (slice_get (all_there done) (length done)) ≡ None
nothing_behind [] = refl
nothing_behind (w ∷ done) = nothing_behind done

none_at : (x first : ℕ) (o : Option (Where Term)) → o ≡ None → cond (nat_lt x first) None o ≡ None
none_at x first o e = by_test (nat_lt x first)
  where
    by_test : (b : Bool) → cond b None o ≡ None
    by_test true = refl
    by_test false = e

by_row : (o : Option (Where Term)) (u : Term) → search.After (term_if o) u → After o u
by_row None u h = tt
by_row (Some row) u h = h

of_row : (o : Option (Where Term)) (u : Term) → After o u → search.After (term_if o) u
of_row None u h = tt
of_row (Some row) u h = h

-- ---- as the calls say it

module _ {N : Type 0} (shapes : Shapes) (a : Plan N) (aim : IsPlan a) (row : MayStand shapes a.term.value) (done : List (Where Term)) (known : List (Option (Where Term))) (there : known ≡ all_there done) where
  term_proper : IsProper shapes a.term.value
  term_proper = record { valid = row.valid; canonical = row.canonical }

  -- the next variable is in its place
  next_place : (items : List (ℕ × SortId)) (v default : ℕ × SortId) → items ≡ a.variables → v ≡ get_or items (length done) default → length done < length a.variables
      → slice_get (variables a.pattern) (length done) ≡ Some v
  next_place items v default is e lt =
      ap (λ vs. slice_get vs (length done)) (sym aim.all) ∙ slice_get-get_or a.variables (length done) default lt ∙ ap (λ vs. Some (get_or vs (length done) default)) (sym is) ∙ ap Some (sym e)

  bound-allowed : (items : List (ℕ × SortId)) (v default : ℕ × SortId) (floor given : Option (Where Term)) (low : Low N) → items ≡ a.variables → v ≡ get_or items (length done) default → floor ≡ given → length done < length a.variables
      → Tells shapes (record { first = a.first; known = known; sought = Some v; floor = floor }) (is_given {N = N} (record { first = a.first; known = known; sought = Some v; floor = floor }) a.pattern) (tell.Makes shapes a.pattern a.term.value) low
      → (u : Term) → GoesOn (matches_of shapes a) (terms done) u → After given u → Allows low u
  bound-allowed items v default floor given low is e f lt h u goes after =
      let s : Sight N = record { first = a.first; known = known; sought = Some v; floor = floor } in
      next-allowed shapes a.pattern a.term.value term_proper s done (subst (AreNumbered a.first) aim.all aim.numbered) there v u low refl (next_place items v default is e lt) h goes (subst (λ o. After o u) (sym f) after)

  -- the next variable stands in the pattern, and its value is not known
  next_sought : (v : ℕ × SortId) (floor : Option (Where Term)) → slice_get (variables a.pattern) (length done) ≡ Some v
      → seeks {N = N} (record { first = a.first; known = known; sought = Some v; floor = floor }) a.pattern ≡ true
  next_sought v floor e =
      let s : Sight N = record { first = a.first; known = known; sought = Some v; floor = floor } in
      let number : v.0 ≡ a.first + length done = number_in a.first (length done) (variables a.pattern) v (subst (AreNumbered a.first) aim.all aim.numbered) e in
      let place : v.0 - a.first ≡ length done = omega arith in
      let unknown : value_at s v.0 ≡ None = none_at v.0 a.first _ (ap (λ i. option_and_then (λ row. row) (slice_get known i)) place ∙ ap (λ ks. option_and_then (λ row. row) (slice_get ks (length done))) there ∙ nothing_behind done) in
      variable_sought s a.pattern v (in_place (variables a.pattern) (length done) v e) (ap (λ b. b && not (is_some (value_at s v.0))) (eq-eqb v.0 v.0 refl) ∙ ap (λ o. not (is_some o)) unknown)

  abbrev pub next_sight : ℕ × SortId → Option (Where Term) → Sight N
  next_sight v floor = record { first = a.first; known = known; sought = Some v; floor = floor }

  module _ (items : List (ℕ × SortId)) (v default : ℕ × SortId) (floor given : Option (Where Term)) (low : Low N) (is_items : items ≡ a.variables) (is_variable : v ≡ get_or items (length done) default)
      (is_floor : floor ≡ given) (few : length done < length a.variables)
      (told : Tells shapes (next_sight v floor) (is_given (next_sight v floor) a.pattern) (tell.Makes shapes a.pattern a.term.value) low) where
    allowed : (u : Term) → GoesOn (matches_of shapes a) (terms done) u → search.After (term_if given) u → Allows low u
    allowed u goes later = bound-allowed items v default floor given low is_items is_variable is_floor few told u goes (by_row given u later)

    pub bounds-none : low ≡ Empty → (u : Term) → GoesOn (matches_of shapes a) (terms done) u → search.After (term_if given) u → ⊥
    bounds-none e u goes later = subst (λ (l : Low N). Allows l u) e (allowed u goes later)

    pub bounds-row : (row : Where Term) → low ≡ At row → IsBound (matches_of shapes a) (terms done) (term_if given) row.value
    bounds-row row e = record {
      after = of_row given row.value (subst (λ o. After o row.value) is_floor (subst (tell.IsTaken shapes (next_sight v floor)) e told.taken).1);
      least = λ u goes later. subst (λ (l : Low N). Allows l u) e (allowed u goes later);
    }

    pub bounds-any : SaysIf (seeks (next_sight v floor) a.pattern) low → low ≡ Any → ⊥
    bounds-any says e = not_true (sym (ap is_any e) ∙ says (next_sought v floor (next_place items v default is_items is_variable few)))

  -- with no variable sought
  abbrev pub whole_sight : Sight N
  whole_sight = record { first = a.first; known = known; sought = None; floor = None }

  pub fits-sorted : (items : List (ℕ × SortId)) (r : Bool) → items ≡ a.variables → All (λ w. MayStand shapes w.value) done → length done ≡ length a.variables → Decides r (HaveSorts shapes items done) → r ≡ false → Decides false (Contains (matches_of shapes a) (terms done))
  fits-sorted items r is rows many d off = (
    λ e. not_true (sym e),
    λ c. not_true (sym (d.1 (subst (λ vs. HaveSorts shapes vs done) (sym aim.all ∙ sym is)
        (match-sorted shapes a.pattern a.term.value term_proper whole_sight done (subst (AreNumbered a.first) aim.all aim.numbered) there refl rows (many ∙ ap length aim.all) c))) ∙ off),
  )

  pub fits-whole : (items : List (ℕ × SortId)) (low : Low N) (r : Bool) → items ≡ a.variables → All (λ w. MayStand shapes w.value) done → length done ≡ length a.variables → HaveSorts shapes items done
      → Tells shapes whole_sight (is_given whole_sight a.pattern) (tell.Makes shapes a.pattern a.term.value) low → r ≡ is_empty low → Decides (not r) (Contains (matches_of shapes a) (terms done))
  fits-whole items low r is rows many sorts h e = (
    λ yes. whole-match shapes a.pattern a.term.value term_proper whole_sight done (subst (AreNumbered a.first) aim.all aim.numbered) there refl rows (many ∙ ap length aim.all) low
        (subst (λ vs. HaveSorts shapes vs done) (is ∙ aim.all) sorts) h (sym e ∙ off_not r yes),
    λ c. ap not e ∙ ap not (match-whole shapes a.pattern a.term.value term_proper whole_sight done (subst (AreNumbered a.first) aim.all aim.numbered) there refl rows (many ∙ ap length aim.all) low h c),
  )
    where
      off_not : (b : Bool) → not b ≡ true → b ≡ false
      off_not true f = not_true (sym f)
      off_not false f = refl
