-- Parts of a valid term are valid, and a well-sorted pattern filled with valid values of its variables' sorts is a valid term of its sort.
use Rattle.std.proofs.Common.{◌≡◌, refl, sym, ap, ◌∙◌, ◌⊎◌, inl, inr, ⊎_elim, subst, ℕ, suc, ◌≤◌, ◌^◌, ◌&&◌, ◌||◌, ◌==◌, eqb-true, ltb-true, leb-true, nat_lt, nat_le, Bool, true, false, cond, ℤ, unwrap_or, Option, Some, None, List, [], ◌∷◌, ◌++◌, length, slice_get, is_some, flat_map, arith}
use Rattle.std.specs.Prelude.{unsigned_abs}
use Rattle.std.specs.List.{AllZip, list_all}
use Rattle.elan_terms.specs.declared.tree.OpId.{OpId}
use Rattle.elan_terms.specs.declared.tree.SortId.{SortId}
use Rattle.elan_terms.specs.declared.tree.Term.{Term}
use Rattle.elan_terms.specs.declared.tree.Pattern.{Pattern}
use Rattle.elan_terms.specs.declared.tree.PatternNode as pattern
use Rattle.elan_terms.specs.declared.tree.Shape.{Shape}
use Rattle.elan_terms.specs.declared.tree.Shapes.{Shapes}
use Rattle.elan_terms.specs.Trees.{int_term, app_term, fold_pattern_row}
use Rattle.elan_terms.specs.Term.{shape_sort, is_ac}
use Rattle.elan_terms.specs.Match.{is_sort, occurrences, variables, bound}
use Rattle.elan_terms.proofs.MatchLemmas.{sort_of-int}
use Rattle.elan_program.specs.Patterns.{is_in_range, sort_of_int, are_of_sorts, are_all_of, args_fit, sort_over, pattern_sort, is_bound, uses, are_numbered}
use Rattle.elan_terms.specs.Valid.{HasSort, MayTake, IsAllowed, IsValid}
use Rattle.elan_laws.specs.Parts.{SomeOf, IsPart, whole, inside, some}
use Rattle.elan_laws.specs.Matching.{filled, HasValue, MayHave, IsMatch}
use Rattle.elan_terms.specs.Valid.{IsValidOf}
use Rattle.elan_terms.proofs.Lists.{AllOf, in_of_contains, all_from, in_all}
use Rattle.elan_terms.proofs.NodeLemmas.{valid_arguments}
use Rattle.elan_terms.proofs.Sorting.{not_true}
use Rattle.elan_laws.proofs.CanonicalLaws.{TakesAlike, ac_takes, takes_ac, valid_app, app_valid, sort-of_app, at_true, at_false, true_or_false}
use Rattle.elan_laws.proofs.TimesLaws.{some_all}
use Rattle.elan_laws.proofs.MatchLaws.{is_sort-some, zip_weaker}

-- ---- parts

some_valid : (shapes : Shapes) (op : OpId) (ts us : List Term) → is_ac shapes op ≡ true → SomeOf us ts → 2 ≤ length us → IsValid shapes (app_term op ts) → IsValid shapes (app_term op us)
some_valid shapes op ts us ac h two v =
    let k : IsAllowed shapes op ts × AllOf (IsValid shapes) ts = valid_app shapes op ts v in
    let alike : TakesAlike shapes (slice_get shapes.shapes op.0) ts = ac_takes shapes op ts ac k.0 in
    app_valid shapes op us
    (takes_ac shapes op us alike.sort ac alike.own two (some_all (λ t. HasSort shapes t alike.sort) h alike.alike))
    (some_all (IsValid shapes) h k.1)

pub part-valid : (shapes : Shapes) (p t : Term) → IsValid shapes t → IsPart shapes p t → IsValid shapes p
part-valid shapes p t v (whole e) = subst (IsValid shapes) (sym e) v
part-valid shapes p t v (inside op ts u i h) = part-valid shapes p u (in_all (IsValid shapes) ts u (valid_arguments shapes op ts v) (in_of_contains ts u i)) h
part-valid shapes p t v (some op ts us ac h two e) = subst (IsValid shapes) (sym e) (some_valid shapes op ts us ac h two v)

-- ---- the sorts of arguments

both : (a b : Bool) → a && b ≡ true → (a ≡ true) × (b ≡ true)
both true b e = (refl, e)
both false b e = not_true (sym e)

one : (a b : Bool) → a || b ≡ true → (a ≡ true) ⊎ (b ≡ true)
one true b e = inl refl
one false b e = inr e

some_inside : (s s' : SortId) → Some s ≡ Some s' → s ≡ s'
some_inside s s' e = ap (λ o. unwrap_or o s) e

not_some : {A : Type 0} (s : SortId) → None ≡ Some s → A
not_some s e = absurd (differ e)
  where
    differ : None ≡ Some s → ⊥
    differ f = cc

module _ (shapes : Shapes) where
  -- a term that suits this sort, where there is one
  abbrev IsValidOfIf : Option SortId → Term → Type 0
  IsValidOfIf o t = (s : SortId) → o ≡ Some s → IsValidOf shapes s t

  alike_sorts : (s : SortId) (found : List (Option SortId)) (ts : List Term) → are_all_of s found ≡ true → AllZip IsValidOfIf found ts → AllOf (IsValidOf shapes s) ts
  alike_sorts s [] [] e h = tt
  alike_sorts s [] (t ∷ ts) e h = absurd h
  alike_sorts s (o ∷ found) [] e h = absurd h
  alike_sorts s (o ∷ found) (t ∷ ts) e h =
      let k : (is_sort o s ≡ true) × (are_all_of s found ≡ true) = both (is_sort o s) (are_all_of s found) e in
      (h.0 s (is_sort-some o s k.0), alike_sorts s found ts k.1 h.1)

  each_sort : (ss : List SortId) (found : List (Option SortId)) (ts : List Term) → are_of_sorts ss found ≡ true → AllZip IsValidOfIf found ts → AllZip (HasSort shapes) ts ss × AllOf (IsValid shapes) ts
  each_sort [] [] [] e h = (tt, tt)
  each_sort [] [] (t ∷ ts) e h = absurd h
  each_sort [] (o ∷ found) ts e h = not_true (sym e)
  each_sort (s ∷ ss) [] ts e h = not_true (sym e)
  each_sort (s ∷ ss) (o ∷ found) [] e h = absurd h
  each_sort (s ∷ ss) (o ∷ found) (t ∷ ts) e h =
      let k : (is_sort o s ≡ true) × (are_of_sorts ss found ≡ true) = both (is_sort o s) (are_of_sorts ss found) e in
      let first : IsValidOf shapes s t = h.0 s (is_sort-some o s k.0) in
      let later : AllZip (HasSort shapes) ts ss × AllOf (IsValid shapes) ts = each_sort ss found ts k.1 h.1 in
      ((first.1, later.0), (first.0, later.1))

  as_long : (found : List (Option SortId)) (ts : List Term) → AllZip IsValidOfIf found ts → length found ≡ length ts
  as_long [] [] h = refl
  as_long [] (t ∷ ts) h = absurd h
  as_long (o ∷ found) [] h = absurd h
  as_long (o ∷ found) (t ∷ ts) h = ap suc (as_long found ts h.1)

  split_valid : (s : SortId) (ts : List Term) → AllOf (IsValidOf shapes s) ts → AllOf (λ t. HasSort shapes t s) ts × AllOf (IsValid shapes) ts
  split_valid s [] h = (tt, tt)
  split_valid s (t ∷ ts) h = let later : AllOf (λ t. HasSort shapes t s) ts × AllOf (IsValid shapes) ts = split_valid s ts h.1 in ((h.0.1, later.0), (h.0.0, later.1))

  -- what fits an operator's shape
  shape_fits : (shape : Shape) (found : List (Option SortId)) (ts : List Term) → args_fit shape found ≡ true → AllZip IsValidOfIf found ts → MayTake shapes (Some shape) ts × AllOf (IsValid shapes) ts
  unfolding args_fit
  shape_fits shape found ts e h = ⊎_elim
      (λ ac. let k : (nat_le 2 (length found) ≡ true) × (are_all_of shape.sort found ≡ true)
      = both (nat_le 2 (length found)) (are_all_of shape.sort found) (sym (ap (λ b. cond b (nat_le 2 (length found) && are_all_of shape.sort found) (are_of_sorts shape.args found)) ac) ∙ e) in
      let two : 2 ≤ length found = leb-true 2 (length found) k.0 in
      let long : length found ≡ length ts = as_long found ts h in
      let all : AllOf (λ t. HasSort shapes t shape.sort) ts × AllOf (IsValid shapes) ts = split_valid shape.sort ts (alike_sorts shape.sort found ts k.1 h) in
      (at_true shape.ac _ _ ac (omega arith, all_from (λ t. HasSort shapes t shape.sort) ts all.0), all.1))
      (λ plain. let k : are_of_sorts shape.args found ≡ true = sym (ap (λ b. cond b (nat_le 2 (length found) && are_all_of shape.sort found) (are_of_sorts shape.args found)) plain) ∙ e in
      let all : AllZip (HasSort shapes) ts shape.args × AllOf (IsValid shapes) ts = each_sort shape.args found ts k h in
      (at_false shape.ac _ _ plain all.0, all.1))
      (true_or_false shape.ac)

  sort_fits : (o : Option Shape) (found : List (Option SortId)) (ts : List Term) (s : SortId) → sort_over o found ≡ Some s → AllZip IsValidOfIf found ts → MayTake shapes o ts × AllOf (IsValid shapes) ts × (shape_sort o ≡ Some s)
  sort_fits None found ts s e h = not_some s e
  sort_fits (Some shape) found ts s e h = ⊎_elim
      (λ fit. let k : MayTake shapes (Some shape) ts × AllOf (IsValid shapes) ts = shape_fits shape found ts fit h in
      (k.0, k.1, sym (ap (λ b. cond b (Some shape.sort) None) fit) ∙ e))
      (λ unfit. not_some s (sym (ap (λ b. cond b (Some shape.sort) None) unfit) ∙ e))
      (true_or_false (args_fit shape found))

  -- ---- patterns

  int_suits : (z : ℤ) (s : SortId) → sort_of_int shapes z ≡ Some s → IsValidOf shapes s (int_term z)
  unfolding sort_of_int is_in_range
  int_suits z s e = ⊎_elim
      (λ there. let own : shapes.int ≡ Some s = sym (ap (λ b. cond b shapes.int None) there) ∙ e in
      ((ltb-true (unsigned_abs z) (2 ^ 63) there, ap is_some own), sort_of-int shapes (int_term z) z refl ∙ own))
      (λ out. not_some s (sym (ap (λ b. cond b shapes.int None) out) ∙ e))
      (true_or_false (is_in_range z))

  all_first : {X : Type 0} (P : X → Type 0) (xs ys : List X) → AllOf P (xs ++ ys) → AllOf P xs
  all_first P [] ys h = tt
  all_first P (x ∷ xs) ys h = (h.0, all_first P xs ys h.1)

  all_second : {X : Type 0} (P : X → Type 0) (xs ys : List X) → AllOf P (xs ++ ys) → AllOf P ys
  all_second P [] ys h = h
  all_second P (x ∷ xs) ys h = all_second P xs ys h.1

  module _ (value : ℕ → Term) where
    -- the value of a variable suits the variable's sort
    abbrev Given : ℕ × SortId → Type 0
    Given v = IsValidOf shapes v.1 (value v.0)

    mutual
      unfolding pattern_sort occurrences filled

      node_suits : (n : pattern.PatternNode) (s : SortId) → pattern_sort shapes (record { node = n }) ≡ Some s → AllOf Given (occurrences (record { node = n })) → IsValidOf shapes s (filled value (record { node = n }))
      node_suits (pattern.Var x r) s e h = subst (λ q. IsValidOf shapes q (value x)) (some_inside r s e) h.0
      node_suits (pattern.Int z) s e h = int_suits z s e
      node_suits (pattern.App' op shape row) s e h =
          let ts : List Term = fold_pattern_row (λ x _. value x) int_term app_term row in
          let k : MayTake shapes (slice_get shapes.shapes op.0) ts × AllOf (IsValid shapes) ts × (shape_sort (slice_get shapes.shapes op.0) ≡ Some s)
          = sort_fits (slice_get shapes.shapes op.0) _ ts s e (row_suits row h) in
          (app_valid shapes op ts k.0 k.1, sort-of_app shapes op ts ∙ k.2)

      row_suits : {n : _} (row : pattern.Row_of-Pattern n) → AllOf Given (flat_map (λ vs. vs) (fold_pattern_row (λ x s. (x, s) ∷ []) (λ _. []) (λ _ vss. flat_map (λ vs. vs) vss) row))
          → AllZip IsValidOfIf (fold_pattern_row (λ x s. Some s) (sort_of_int shapes) (λ op found. sort_over (slice_get shapes.shapes op.0) found) row) (fold_pattern_row (λ x _. value x) int_term app_term row)
      row_suits pattern.end_of-Pattern h = tt
      row_suits (pattern.more_of-Pattern x rest) h =
          ((λ s e. node_suits x s e (all_first Given _ _ h)), row_suits rest (all_second Given _ _ h))

    pub pattern_suits : (p : Pattern) (s : SortId) → pattern_sort shapes p ≡ Some s → AllOf Given (occurrences p) → IsValidOf shapes s (filled value p)
    pattern_suits p s e h = node_suits p.node s e h

  -- ---- the values of variables

  later_numbers : (sorts k : ℕ) (vs : List (ℕ × SortId)) (v : ℕ × SortId) → are_numbered sorts k vs ≡ true → is_bound vs v ≡ true → k ≤ v.0
  later_numbers sorts k [] v e b = not_true (sym b)
  later_numbers sorts k (w ∷ vs) v e b =
      let n : ((w.0 == k && nat_lt w.1.0 sorts) ≡ true) × (are_numbered sorts (suc k) vs ≡ true) = both (w.0 == k && nat_lt w.1.0 sorts) (are_numbered sorts (suc k) vs) e in
      let first : w.0 ≡ k = eqb-true w.0 k (both (w.0 == k) (nat_lt w.1.0 sorts) n.0).0 in
      ⊎_elim
      (λ here. let same_number : w.0 ≡ v.0 = eqb-true w.0 v.0 (both (w.0 == v.0) (w.1.0 == v.1.0) here).0 in omega arith)
      (λ there. let more : suc k ≤ v.0 = later_numbers sorts (suc k) vs v n.1 there in omega arith)
      (one (w.0 == v.0 && w.1.0 == v.1.0) (is_bound vs v) b)

  bound_suits : (sorts k : ℕ) (vs : List (ℕ × SortId)) (ts : List Term) (v : ℕ × SortId) → are_numbered sorts k vs ≡ true → AllZip (HasValue shapes) vs ts → is_bound vs v ≡ true → IsValidOf shapes v.1 (bound vs ts v.0)
  bound_suits sorts k [] ts v e h b = not_true (sym b)
  bound_suits sorts k (w ∷ vs) [] v e h b = absurd h
  bound_suits sorts k (w ∷ vs) (t ∷ ts) v e h b =
      let n : ((w.0 == k && nat_lt w.1.0 sorts) ≡ true) × (are_numbered sorts (suc k) vs ≡ true) = both (w.0 == k && nat_lt w.1.0 sorts) (are_numbered sorts (suc k) vs) e in
      let first : w.0 ≡ k = eqb-true w.0 k (both (w.0 == k) (nat_lt w.1.0 sorts) n.0).0 in
      ⊎_elim
      (λ same_number. let equal : w.0 ≡ v.0 = eqb-true w.0 v.0 same_number in
      subst (λ b. IsValidOf shapes v.1 (cond b t (bound vs ts v.0))) (sym same_number)
      (⊎_elim
      (λ here. subst (λ (i : ℕ). IsValidOf shapes (record { 0 = i }) t) (eqb-true w.1.0 v.1.0 (both (w.0 == v.0) (w.1.0 == v.1.0) here).1) h.0)
      (λ there. let more : suc k ≤ v.0 = later_numbers sorts (suc k) vs v n.1 there in absurd (omega arith))
      (one (w.0 == v.0 && w.1.0 == v.1.0) (is_bound vs v) b)))
      (λ other. subst (λ b. IsValidOf shapes v.1 (cond b t (bound vs ts v.0))) (sym other)
      (bound_suits sorts (suc k) vs ts v n.1 h.1
      (⊎_elim
      (λ here. not_true (sym (both (w.0 == v.0) (w.1.0 == v.1.0) here).0 ∙ other))
      (λ there. there)
      (one (w.0 == v.0 && w.1.0 == v.1.0) (is_bound vs v) b))))
      (true_or_false (w.0 == v.0))

  all_bound : (P : ℕ × SortId → Type 0) (test : ℕ × SortId → Bool) (vs : List (ℕ × SortId)) → ((v : ℕ × SortId) → test v ≡ true → P v) → list_all test vs ≡ true → AllOf P vs
  all_bound P test [] f e = tt
  all_bound P test (v ∷ vs) f e = let k : (test v ≡ true) × (list_all test vs ≡ true) = both (test v) (list_all test vs) e in (f v k.0, all_bound P test vs f k.1)

  pub filled-suits : (sorts : ℕ) (vs : List (ℕ × SortId)) (p : Pattern) (s : SortId) (values : List Term) → pattern_sort shapes p ≡ Some s → uses vs p ≡ true → are_numbered sorts 0 vs ≡ true
      → AllZip (HasValue shapes) vs values → IsValidOf shapes s (filled (bound vs values) p)
  unfolding uses
  filled-suits sorts vs p s values e u n h =
      pattern_suits (bound vs values) p s e (all_bound (Given (bound vs values)) (is_bound vs) (occurrences p) (λ v b. bound_suits sorts 0 vs values v n h b) u)

-- ---- matches

pub match-valid : (shapes : Shapes) (p : Pattern) (t : Term) (values : List Term) → IsValid shapes t → IsMatch shapes p t values → AllZip (HasValue shapes) (variables p) values
match-valid shapes p t values v m = zip_weaker (MayHave shapes t) (HasValue shapes) (λ w u k. (part-valid shapes u t v k.0, k.1)) (variables p) values m.given
