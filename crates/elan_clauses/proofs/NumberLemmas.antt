-- Variables numbered in the order in which they are bound.
use Rattle.std.proofs.Common.{append_assoc, append-nil, length-append, ◌≡◌, refl, sym, ap, subst, ◌∙◌, ℕ, suc, ◌+◌, ◌<◌, ◌==◌, Bool, true, false, ◌&&◌, ◌||◌, List, [], ◌∷◌, ◌++◌, length, map, arith}
use Rattle.std.proofs.lemmas.Grind.{common_steps}
use Rattle.std.proofs.lemmas.List.{map-append}
use Rattle.std.proofs.lemmas.List.Folds.{list_all-append, list_any-append}
use Rattle.std.specs.Prelude.{ℤ, Option, Some, None, if◌then◌else◌, nat_lt, not}
use Rattle.std.specs.List.{list_all, list_any, flat_map}
use Rattle.elan_terms.specs.declared.tree.OpId.{OpId}
use Rattle.elan_terms.specs.declared.tree.SortId.{SortId}
use Rattle.elan_terms.specs.declared.tree.Shapes.{Shapes}
use Rattle.elan_terms.specs.declared.tree.Pattern.{Pattern}
use Rattle.elan_terms.specs.declared.tree.PatternNode as pattern
use Rattle.elan_terms.specs.Trees.{fold_pattern_node, fold_pattern_row}
use Rattle.elan_terms.specs.Match.{is_sort, noted, new_in, occurrences, variables}
use Rattle.elan_terms.proofs.TreeLemmas.{fold_pattern-app}
use Rattle.elan_program.specs.Extension.{var_pattern, int_pattern, app_pattern}
use Rattle.elan_program.specs.Patterns.{pattern_sort, sort_of_int, sort_over, uses, is_bound, are_numbered, binds}
use Rattle.std.specs.Prelude.{slice_get}
use Rattle.elan_clauses.specs.Rules.{place_in, numbered_so}
use Rattle.elan_clauses.specs.Texts.{Bound}

-- ---- truth values

pub left_true : (a b : Bool) → a && b ≡ true → a ≡ true
left_true true b e = refl
left_true false b e = cc

pub right_true : (a b : Bool) → a && b ≡ true → b ≡ true
right_true true b e = e
right_true false b e = cc

pub both_true : (a b : Bool) → a ≡ true → b ≡ true → a && b ≡ true
both_true a b e f = ap (λ x. x && b) e ∙ f

pub either_left : (a b : Bool) → a ≡ true → a || b ≡ true
either_left a b e = ap (λ x. x || b) e

pub either_right : (a b : Bool) → b ≡ true → a || b ≡ true
either_right true b e = refl
either_right false b e = e

pub not_false : (a : Bool) → not a ≡ true → a ≡ false
not_false true e = cc
not_false false e = refl

pub is_false : (a : Bool) → (a ≡ true → ⊥) → a ≡ false
is_false true e = absurd (e refl)
is_false false e = refl

pub nat_same : (n : ℕ) → n == n ≡ true
nat_same n = grind (arith, common_steps)

pub nat_equal : (n m : ℕ) → (n == m) ≡ true → n ≡ m
nat_equal n m e = grind (arith, common_steps)

pub nat_differs : (n m : ℕ) → (n == m) ≡ false → n ≡ m → ⊥
nat_differs n m e f = grind (arith, common_steps)

-- ---- variables that are in a list

abbrev pub is_in : Bound → ℕ → Bool
is_in vs x = list_any (λ w. w.0 == x) vs

abbrev pub renamed : Bound → ℕ × SortId → ℕ × SortId
renamed order v = (place_in order v.0, v.1)

-- places in an order are as different as the variables that have them
place_one : (order : Bound) (x y : ℕ) → is_in order x ≡ true → place_in order x ≡ place_in order y → x ≡ y
place_one [] x y i e = cc
place_one (v ∷ vs) x y i e = go (place_one vs x y) (v.0 == x) (v.0 == y) refl refl i e
  where
    go : (is_in vs x ≡ true → place_in vs x ≡ place_in vs y → x ≡ y) → (b c : Bool) → (v.0 == x) ≡ b → (v.0 == y) ≡ c → (b || is_in vs x) ≡ true
        → (if b then 0 else place_in vs x + 1) ≡ (if c then 0 else place_in vs y + 1) → x ≡ y
    go more true true p q i e = sym (nat_equal v.0 x p) ∙ nat_equal v.0 y q
    go more true false p q i e = absurd (let f : 0 ≡ place_in vs y + 1 = e in omega arith)
    go more false true p q i e = absurd (let f : place_in vs x + 1 ≡ 0 = e in omega arith)
    go more false false p q i e = more i (let f : place_in vs x + 1 ≡ place_in vs y + 1 = e in omega arith)

same_test : (order : Bound) (x y : ℕ) → is_in order y ≡ true → (place_in order x == place_in order y) ≡ (x == y)
same_test order x y i = go (x == y) (place_in order x == place_in order y) refl refl
  where
    go : (b c : Bool) → (x == y) ≡ b → (place_in order x == place_in order y) ≡ c → c ≡ b
    go true true p q = refl
    go false false p q = refl
    go true false p q = absurd (nat_differs _ _ q (ap (place_in order) (nat_equal x y p)))
    go false true p q = absurd (nat_differs x y p (sym (place_one order y x i (sym (nat_equal _ _ q)))))

any_renamed : (order seen : Bound) (x : ℕ) → is_in order x ≡ true → is_in (map (renamed order) seen) (place_in order x) ≡ is_in seen x
any_renamed order [] x i = refl
any_renamed order (w ∷ ws) x i = ap (λ b. b || is_in (map (renamed order) ws) (place_in order x)) (same_test order w.0 x i)
    ∙ ap (λ b. (w.0 == x) || b) (any_renamed order ws x i)

noted_renamed : (order seen : Bound) (v : ℕ × SortId) → is_in order v.0 ≡ true → noted (map (renamed order) seen) (renamed order v) ≡ map (renamed order) (noted seen v)
noted_renamed order seen v i = ap (λ b. if b then map (renamed order) seen else map (renamed order) seen ++ renamed order v ∷ []) (any_renamed order seen v.0 i) ∙ go (is_in seen v.0)
  where
    go : (b : Bool) → (if b then map (renamed order) seen else map (renamed order) seen ++ renamed order v ∷ []) ≡ map (renamed order) (if b then seen else seen ++ v ∷ [])
    go true = refl
    go false = sym (map-append (renamed order) seen (v ∷ []))

-- the variables in order of first occurrence are the same, numbered so
pub new_renamed : (order seen vs : Bound) → list_all (λ v. is_in order v.0) vs ≡ true → new_in (map (renamed order) seen) (map (renamed order) vs) ≡ map (renamed order) (new_in seen vs)
new_renamed order seen [] i = refl
new_renamed order seen (v ∷ vs) i =
    ap (λ s. new_in s (map (renamed order) vs)) (noted_renamed order seen v (left_true _ (list_all (λ v. is_in order v.0) vs) i))
    ∙ new_renamed order (noted seen v) vs (right_true (is_in order v.0) _ i)

-- ---- patterns

module _ (order : Bound) where
  abbrev so_node : pattern.PatternNode → Pattern
  so_node = fold_pattern_node (λ x s. var_pattern (place_in order x) s) int_pattern app_pattern

  abbrev so_row : {n : _} → pattern.Row_of-Pattern n → List Pattern
  so_row = fold_pattern_row (λ x s. var_pattern (place_in order x) s) int_pattern app_pattern

  abbrev places_node : pattern.PatternNode → Bound
  places_node = fold_pattern_node (λ x s. (x, s) ∷ []) (λ _. []) (λ _ vss. flat_map (λ vs. vs) vss)

  abbrev places_row : {n : _} → pattern.Row_of-Pattern n → List Bound
  places_row = fold_pattern_row (λ x s. (x, s) ∷ []) (λ _. []) (λ _ vss. flat_map (λ vs. vs) vss)

  mutual
    unfolding occurrences

    occurrences_node : (n : pattern.PatternNode) → occurrences (so_node n) ≡ map (renamed order) (places_node n)
    occurrences_node (pattern.Var x s) = refl
    occurrences_node (pattern.Int z) = refl
    occurrences_node (pattern.App' op shape row) = fold_pattern-app (λ x s. (x, s) ∷ []) (λ _. []) (λ _ vss. flat_map (λ vs. vs) vss) op (so_row row)
        ∙ occurrences_row row

    occurrences_row : {n : _} (row : pattern.Row_of-Pattern n) → flat_map (λ vs. vs) (map occurrences (so_row row)) ≡ map (renamed order) (flat_map (λ vs. vs) (places_row row))
    occurrences_row pattern.end_of-Pattern = refl
    occurrences_row (pattern.more_of-Pattern n rest) =
        ap (λ vs. vs ++ flat_map (λ vs. vs) (map occurrences (so_row rest))) (occurrences_node n)
        ∙ ap (λ vs. map (renamed order) (places_node n) ++ vs) (occurrences_row rest)
        ∙ sym (map-append (renamed order) (places_node n) (flat_map (λ vs. vs) (places_row rest)))

  pub occurrences_numbered : (p : Pattern) → occurrences (numbered_so order p) ≡ map (renamed order) (occurrences p)
  unfolding occurrences numbered_so
  occurrences_numbered p = occurrences_node p.node

  module _ (shapes : Shapes) where
    abbrev sort_node : pattern.PatternNode → Option SortId
    sort_node = fold_pattern_node (λ x s. Some s) (sort_of_int shapes) (λ op found. sort_over (slice_get shapes.shapes op.0) found)

    abbrev sort_row : {n : _} → pattern.Row_of-Pattern n → List (Option SortId)
    sort_row = fold_pattern_row (λ x s. Some s) (sort_of_int shapes) (λ op found. sort_over (slice_get shapes.shapes op.0) found)

    mutual
      unfolding pattern_sort

      sorts_node : (n : pattern.PatternNode) → pattern_sort shapes (so_node n) ≡ sort_node n
      sorts_node (pattern.Var x s) = refl
      sorts_node (pattern.Int z) = refl
      sorts_node (pattern.App' op shape row) =
          fold_pattern-app (λ x s. Some s) (sort_of_int shapes) (λ op found. sort_over (slice_get shapes.shapes op.0) found) op (so_row row)
          ∙ ap (sort_over (slice_get shapes.shapes op.0)) (sorts_row row)

      sorts_row : {n : _} (row : pattern.Row_of-Pattern n) → map (pattern_sort shapes) (so_row row) ≡ sort_row row
      sorts_row pattern.end_of-Pattern = refl
      sorts_row (pattern.more_of-Pattern n rest) = ap (λ s. s ∷ map (pattern_sort shapes) (so_row rest)) (sorts_node n) ∙ ap (λ ss. sort_node n ∷ ss) (sorts_row rest)

    pub sort_numbered : (p : Pattern) → pattern_sort shapes (numbered_so order p) ≡ pattern_sort shapes p
    unfolding pattern_sort numbered_so
    sort_numbered p = sorts_node p.node

  -- ---- what is used

  bound_renamed : (bound : Bound) (v : ℕ × SortId) → is_bound bound v ≡ true → is_bound (map (renamed order) bound) (renamed order v) ≡ true
  bound_renamed [] v e = e
  bound_renamed (w ∷ ws) v e = go (bound_renamed ws v) (w.0 == v.0 && w.1.0 == v.1.0) refl e
    where
      go : (is_bound ws v ≡ true → is_bound (map (renamed order) ws) (renamed order v) ≡ true) → (b : Bool) → (w.0 == v.0 && w.1.0 == v.1.0) ≡ b → (b || is_bound ws v) ≡ true
          → ((place_in order w.0 == place_in order v.0 && w.1.0 == v.1.0) || is_bound (map (renamed order) ws) (renamed order v)) ≡ true
      go more true here e = either_left (place_in order w.0 == place_in order v.0 && w.1.0 == v.1.0) _ (both_true (place_in order w.0 == place_in order v.0) (w.1.0 == v.1.0)
          (ap (λ x. place_in order w.0 == place_in order x) (sym (nat_equal w.0 v.0 (left_true (w.0 == v.0) (w.1.0 == v.1.0) here))) ∙ nat_same (place_in order w.0))
          (right_true (w.0 == v.0) (w.1.0 == v.1.0) here))
      go more false here e = either_right (place_in order w.0 == place_in order v.0 && w.1.0 == v.1.0) _ (more e)

  all_renamed : (bound vs : Bound) → list_all (is_bound bound) vs ≡ true → list_all (is_bound (map (renamed order) bound)) (map (renamed order) vs) ≡ true
  all_renamed bound [] e = refl
  all_renamed bound (v ∷ vs) e = both_true (is_bound (map (renamed order) bound) (renamed order v)) _
      (bound_renamed bound v (left_true (is_bound bound v) (list_all (is_bound bound) vs) e)) (all_renamed bound vs (right_true (is_bound bound v) _ e))

  pub uses_renamed : (bound : Bound) (p : Pattern) → uses bound p ≡ true → uses (map (renamed order) bound) (numbered_so order p) ≡ true
  unfolding uses
  uses_renamed bound p e = ap (list_all (is_bound (map (renamed order) bound))) (occurrences_numbered p) ∙ all_renamed bound (occurrences p) e

-- ---- what is noted

module _ (test : ℕ × SortId → Bool) where
  any_noted : (seen : Bound) (u : ℕ × SortId) → list_any test seen ≡ true → list_any test (noted seen u) ≡ true
  any_noted seen u e = go (is_in seen u.0)
    where
      go : (b : Bool) → list_any test (if b then seen else seen ++ u ∷ []) ≡ true
      go true = e
      go false = list_any-append test seen (u ∷ []) ∙ either_left (list_any test seen) _ e

  any_more : (seen vs : Bound) → list_any test seen ≡ true → list_any test (new_in seen vs) ≡ true
  any_more seen [] e = e
  any_more seen (v ∷ vs) e = any_more (noted seen v) vs (any_noted seen v e)

-- ---- variables that have one sort each

module _ (sort : ℕ → Option SortId) where
  -- variables have the sorts of their numbers
  abbrev pub typed : Bound → Bool
  typed vs = list_all (λ v. is_sort (sort v.0) v.1) vs

  sorts_agree : (d : Option SortId) (s t : SortId) → is_sort d s ≡ true → is_sort d t ≡ true → (s.0 == t.0) ≡ true
  sorts_agree None s t e f = cc
  sorts_agree (Some d) s t e f = ap (λ x. x == t.0) (sym (nat_equal d.0 s.0 e)) ∙ f

  bound_from : (seen : Bound) (v : ℕ × SortId) → typed seen ≡ true → is_sort (sort v.0) v.1 ≡ true → is_in seen v.0 ≡ true → is_bound seen v ≡ true
  bound_from [] v t s i = i
  bound_from (w ∷ ws) v t s i = go (λ more. bound_from ws v (right_true (is_sort (sort w.0) w.1) (typed ws) t) s more) (w.0 == v.0) refl i
    where
      go : (is_in ws v.0 ≡ true → is_bound ws v ≡ true) → (b : Bool) → (w.0 == v.0) ≡ b → (b || is_in ws v.0) ≡ true → ((b && w.1.0 == v.1.0) || is_bound ws v) ≡ true
      go more true here e = either_left (w.1.0 == v.1.0) _ (sorts_agree (sort w.0) w.1 v.1 (left_true (is_sort (sort w.0) w.1) (typed ws) t)
          (ap (λ x. is_sort (sort x) v.1) (nat_equal w.0 v.0 here) ∙ s))
      go more false here e = more e

  typed_noted : (seen : Bound) (v : ℕ × SortId) → typed seen ≡ true → is_sort (sort v.0) v.1 ≡ true → typed (noted seen v) ≡ true
  typed_noted seen v t s = go (is_in seen v.0)
    where
      go : (b : Bool) → typed (if b then seen else seen ++ v ∷ []) ≡ true
      go true = t
      go false = list_all-append (λ v. is_sort (sort v.0) v.1) seen (v ∷ []) ∙ both_true (typed seen) _ t (both_true (is_sort (sort v.0) v.1) true s refl)

  bound_here : (seen : Bound) (v : ℕ × SortId) → typed seen ≡ true → is_sort (sort v.0) v.1 ≡ true → is_bound (noted seen v) v ≡ true
  bound_here seen v t s = go (is_in seen v.0) refl
    where
      go : (b : Bool) → is_in seen v.0 ≡ b → is_bound (if b then seen else seen ++ v ∷ []) v ≡ true
      go true i = bound_from seen v t s i
      go false i = list_any-append (λ w. w.0 == v.0 && w.1.0 == v.1.0) seen (v ∷ [])
          ∙ either_right (is_bound seen v) _ (either_left (v.0 == v.0 && v.1.0 == v.1.0) false (both_true (v.0 == v.0) (v.1.0 == v.1.0) (nat_same v.0) (nat_same v.1.0)))

  uses_new : (seen vs : Bound) → typed seen ≡ true → typed vs ≡ true → list_all (is_bound (new_in seen vs)) vs ≡ true
  uses_new seen [] t u = refl
  uses_new seen (v ∷ vs) t u =
      both_true (is_bound (new_in (noted seen v) vs) v) _
      (any_more (λ w. w.0 == v.0 && w.1.0 == v.1.0) (noted seen v) vs (bound_here seen v t (left_true (is_sort (sort v.0) v.1) (typed vs) u)))
      (uses_new (noted seen v) vs (typed_noted seen v t (left_true (is_sort (sort v.0) v.1) (typed vs) u)) (right_true (is_sort (sort v.0) v.1) (typed vs) u))

  -- a pattern uses its own variables, where each has one sort
  pub uses_own : (p : Pattern) → typed (occurrences p) ≡ true → uses (variables p) p ≡ true
  unfolding uses variables
  uses_own p t = uses_new [] (occurrences p) refl t

-- what holds of all occurrences holds of all variables
pub all_new : (test : ℕ × SortId → Bool) (seen vs : Bound) → list_all test seen ≡ true → list_all test vs ≡ true → list_all test (new_in seen vs) ≡ true
all_new test seen [] e f = e
all_new test seen (v ∷ vs) e f = all_new test (noted seen v) vs (go (is_in seen v.0)) (right_true (test v) (list_all test vs) f)
  where
    go : (b : Bool) → list_all test (if b then seen else seen ++ v ∷ []) ≡ true
    go true = e
    go false = list_all-append test seen (v ∷ []) ∙ both_true (list_all test seen) _ e (both_true (test v) true (left_true (test v) (list_all test vs) f) refl)

-- ---- variables that are each new

-- each of these variables is none of those before it
abbrev pub are_new : Bound → Bound → Bool
are_new before [] = true
are_new before (v ∷ vs) = not (is_in before v.0) && are_new (before ++ v ∷ []) vs

pub new_append : (before vs ws : Bound) → are_new before (vs ++ ws) ≡ (are_new before vs && are_new (before ++ vs) ws)
new_append before [] ws = ap (λ b. are_new b ws) (sym (append-nil before))
new_append before (v ∷ vs) ws = ap (λ b. not (is_in before v.0) && b) (new_append (before ++ v ∷ []) vs ws ∙ ap (λ b. are_new (before ++ v ∷ []) vs && are_new b ws) (append_assoc before (v ∷ []) vs))
    ∙ and_assoc (not (is_in before v.0)) (are_new (before ++ v ∷ []) vs) _
  where
    and_assoc : (a b c : Bool) → (a && (b && c)) ≡ ((a && b) && c)
    and_assoc true b c = refl
    and_assoc false b c = refl

-- the variables that are noted are each new, where none of them was bound before
new_noted : (before seen : Bound) (v : ℕ × SortId) → are_new before seen ≡ true → (is_in seen v.0 ≡ false → is_in before v.0 ≡ false) → are_new before (noted seen v) ≡ true
new_noted before seen v e f = go (is_in seen v.0) refl
  where
    go : (b : Bool) → is_in seen v.0 ≡ b → are_new before (if b then seen else seen ++ v ∷ []) ≡ true
    go true i = e
    go false i = new_append before seen (v ∷ []) ∙ both_true (are_new before seen) _ e
        (ap (λ b. not b && true) (list_any-append (λ w. w.0 == v.0) before seen ∙ ap (λ b. b || is_in seen v.0) (f i) ∙ i))

pub are_new_in : (before seen vs : Bound) → are_new before seen ≡ true → list_any (λ v. is_in before v.0) (new_in seen vs) ≡ false → are_new before (new_in seen vs) ≡ true
are_new_in before seen [] e f = e
are_new_in before seen (v ∷ vs) e f = are_new_in before (noted seen v) vs (new_noted before seen v e not_before) f
  where
    at_end : (seen : Bound) → list_any (λ v. is_in before v.0) (seen ++ v ∷ []) ≡ (list_any (λ v. is_in before v.0) seen || (is_in before v.0 || false))
    at_end seen = list_any-append (λ v. is_in before v.0) seen (v ∷ [])

    not_before : is_in seen v.0 ≡ false → is_in before v.0 ≡ false
    not_before i = is_false (is_in before v.0) (λ here. cc_of (sym f ∙ any_more (λ v. is_in before v.0) (noted seen v) vs (ap (λ b. list_any (λ v. is_in before v.0) (if b then seen else seen ++ v ∷ [])) i
        ∙ at_end seen ∙ either_right (list_any (λ v. is_in before v.0) seen) _ (either_left (is_in before v.0) false here))))
      where
        cc_of : false ≡ true → ⊥
        cc_of e = cc

place_at : (before : Bound) (v : ℕ × SortId) (rest : Bound) → is_in before v.0 ≡ false → place_in (before ++ v ∷ rest) v.0 ≡ length before
place_at [] v rest e = ap (λ b. if b then 0 else place_in rest v.0 + 1) (nat_same v.0)
place_at (w ∷ ws) v rest e = go (place_at ws v rest) (w.0 == v.0) e
  where
    go : (is_in ws v.0 ≡ false → place_in (ws ++ v ∷ rest) v.0 ≡ length ws) → (b : Bool) → (b || is_in ws v.0) ≡ false → (if b then 0 else place_in (ws ++ v ∷ rest) v.0 + 1) ≡ length (w ∷ ws)
    go more true e = cc
    go more false e = omega (arith, more e)

-- variables that are new behind others are numbered on
pub numbered_on : (sorts k : ℕ) (order before vs rest : Bound) → order ≡ before ++ (vs ++ rest) → k ≡ length before → are_new before vs ≡ true
    → list_all (λ v. nat_lt v.1.0 sorts) vs ≡ true → are_numbered sorts k (map (renamed order) vs) ≡ true
numbered_on sorts k order before [] rest e l n s = refl
numbered_on sorts k order before (v ∷ vs) rest e l n s =
    both_true (place_in order v.0 == k && nat_lt v.1.0 sorts) _
    (both_true (place_in order v.0 == k) (nat_lt v.1.0 sorts)
    (ap (λ x. x == k) (ap (λ o. place_in o v.0) e ∙ place_at before v (vs ++ rest) (not_false (is_in before v.0) (left_true _ (are_new (before ++ v ∷ []) vs) n)) ∙ sym l) ∙ nat_same k)
    (left_true (nat_lt v.1.0 sorts) (list_all (λ v. nat_lt v.1.0 sorts) vs) s))
    (numbered_on sorts (suc k) order (before ++ v ∷ []) vs rest (e ∙ sym (append_assoc before (v ∷ []) (vs ++ rest))) (omega (arith, length-append before (v ∷ []), l))
    (right_true (not (is_in before v.0)) _ n) (right_true (nat_lt v.1.0 sorts) _ s))
