-- The rules that normalising tries are good.
use Rattle.std.proofs.Common.{◌≡◌, refl, sym, ap, ◌∙◌, subst, ◌⊎◌, inl, inr, ⊎_elim, ℕ, suc, ◌+◌, ◌≤◌, ◌<◌, ◌&&◌, ◌||◌, ◌==◌, eqb-true, eq-eqb, nat_lt, ltb-true, ltb-false, lt-ltb, Bool, true, false, cond, Some, List, [], ◌∷◌, ◌++◌, length, map, flat_map, arith}
use Rattle.std.specs.Prelude.{slice_get, min}
use Rattle.std.specs.List.{list_all, list_any}
use Rattle.std.proofs.Math.Nat.{min-eq_left}
use Rattle.elan_terms.specs.declared.tree.SortId.{SortId}
use Rattle.elan_terms.specs.declared.tree.Shapes.{Shapes}
use Rattle.elan_terms.specs.declared.tree.Pattern.{Pattern}
use Rattle.elan_terms.specs.declared.tree.PatternNode as pattern
use Rattle.elan_terms.specs.Trees.{fold_pattern_row}
use Rattle.elan_terms.specs.Match.{occurrences, variables, noted, new_in}
use Rattle.elan_terms.proofs.MatchLemmas.{occurrences-app}
use Rattle.elan_program.specs.Patterns.{pattern_sort, sort_of_int, sort_over, uses, is_bound, are_numbered, binds}
use Rattle.elan_program.specs.Extension.{moved, shifted, last_number, var_pattern, int_pattern, app_pattern}
use Rattle.elan_program.proofs.PatternLemmas.{pattern_sort-app}
use Rattle.elan_terms.proofs.Lists.{AllOf, all_append}
use Rattle.elan_terms.proofs.Sorting.{not_true}
use Rattle.elan_laws.proofs.CanonicalLaws.{true_or_false}
use Rattle.elan_kinds.proofs.SortFits.{both, one, and_true}

-- ---- numbers

pub moved_below : (k x : ℕ) → x < k → moved k x ≡ x
unfolding moved
moved_below k x lt = ap (λ b. cond b x (min (x + 1) last_number)) (lt-ltb x k lt)

not_below : (x k : ℕ) → k ≤ x → nat_lt x k ≡ false
not_below x k le = ⊎_elim (λ t. let lt : x < k = ltb-true x k t in absurd (omega arith)) (λ f. f) (true_or_false (nat_lt x k))

moved_from : (k x : ℕ) → k ≤ x → x < last_number → moved k x ≡ suc x
unfolding moved
moved_from k x le lt =
    let next : x + 1 ≡ suc x = omega arith in
    ap (λ b. cond b x (min (x + 1) last_number)) (not_below x k le) ∙ min-eq_left {n = x + 1} {m = last_number} (omega arith) ∙ next

-- a number below k stays, and one from k on is moved by one
abbrev Way : ℕ → ℕ → Type 0
Way k x = ((moved k x ≡ x) × (x < k)) ⊎ ((moved k x ≡ suc x) × (k ≤ x))

way : (k x : ℕ) → x < last_number → Way k x
way k x lt = ⊎_elim (λ t. let below : x < k = ltb-true x k t in inl (moved_below k x below, below)) (λ f. let above : k ≤ x = ltb-false x k f in inr (moved_from k x above lt, above)) (true_or_false (nat_lt x k))

inside_by : (k x y : ℕ) → Way k x → Way k y → moved k x ≡ moved k y → x ≡ y
inside_by k x y (inl a) (inl b) e = let a0 : moved k x ≡ x = a.0 in let b0 : moved k y ≡ y = b.0 in omega arith
inside_by k x y (inl a) (inr b) e = let a0 : moved k x ≡ x = a.0 in let b0 : moved k y ≡ suc y = b.0 in let a1 : x < k = a.1 in let b1 : k ≤ y = b.1 in absurd (omega arith)
inside_by k x y (inr a) (inl b) e = let a0 : moved k x ≡ suc x = a.0 in let b0 : moved k y ≡ y = b.0 in let a1 : k ≤ x = a.1 in let b1 : y < k = b.1 in absurd (omega arith)
inside_by k x y (inr a) (inr b) e = let a0 : moved k x ≡ suc x = a.0 in let b0 : moved k y ≡ suc y = b.0 in omega arith

moved_inside : (k x y : ℕ) → x < last_number → y < last_number → moved k x ≡ moved k y → x ≡ y
moved_inside k x y lx ly e = inside_by k x y (way k x lx) (way k y ly) e

same_bool : (a b : Bool) → (a ≡ true → b ≡ true) → (b ≡ true → a ≡ true) → a ≡ b
same_bool true true f g = refl
same_bool true false f g = not_true (sym (f refl))
same_bool false true f g = not_true (sym (g refl))
same_bool false false f g = refl

moved_same : (k x y : ℕ) → x < last_number → y < last_number → (moved k x == moved k y) ≡ (x == y)
moved_same k x y lx ly = same_bool (moved k x == moved k y) (x == y)
    (λ e. eq-eqb x y (moved_inside k x y lx ly (eqb-true (moved k x) (moved k y) e)))
    (λ e. eq-eqb (moved k x) (moved k y) (ap (moved k) (eqb-true x y e)))

-- ---- variables

abbrev Small : ℕ × SortId → Type 0
Small v = v.0 < last_number

pub or_left : (a b : Bool) → a ≡ true → a || b ≡ true
or_left a b e = ap (λ x. x || b) e

pub or_right : (a b : Bool) → b ≡ true → a || b ≡ true
or_right true b e = refl
or_right false b e = e

map_append : {X Y : Type 0} (f : X → Y) (xs ys : List X) → map f (xs ++ ys) ≡ map f xs ++ map f ys
map_append f [] ys = refl
map_append f (x ∷ xs) ys = ap (λ r. f x ∷ r) (map_append f xs ys)

pub append_nothing : {X : Type 0} (xs : List X) → xs ++ [] ≡ xs
append_nothing [] = refl
append_nothing (x ∷ xs) = ap (λ r. x ∷ r) (append_nothing xs)

pub length_map : {X Y : Type 0} (f : X → Y) (xs : List X) → length (map f xs) ≡ length xs
length_map f [] = refl
length_map f (x ∷ xs) = ap suc (length_map f xs)

pub new_in_append : (seen xs ys : List (ℕ × SortId)) → new_in seen (xs ++ ys) ≡ new_in (new_in seen xs) ys
new_in_append seen [] ys = refl
new_in_append seen (x ∷ xs) ys = new_in_append (noted seen x) xs ys

module _ (k : ℕ) where
  abbrev pub sh : ℕ × SortId → ℕ × SortId
  sh v = (moved k v.0, v.1)

  any_map : (v : ℕ × SortId) (seen : List (ℕ × SortId)) → AllOf Small seen → Small v → list_any (λ w. w.0 == moved k v.0) (map sh seen) ≡ list_any (λ w. w.0 == v.0) seen
  any_map v [] h l = refl
  any_map v (w ∷ seen) h l =
      ap (λ b. b || list_any (λ (w : ℕ × SortId). w.0 == moved k v.0) (map sh seen)) (moved_same k w.0 v.0 h.0 l) ∙ ap (λ b. (w.0 == v.0) || b) (any_map v seen h.1 l)

  noted_by : (v : ℕ × SortId) (seen : List (ℕ × SortId)) (b : Bool) → cond b (map sh seen) (map sh seen ++ sh v ∷ []) ≡ map sh (cond b seen (seen ++ v ∷ []))
  noted_by v seen true = refl
  noted_by v seen false = sym (map_append sh seen (v ∷ []))

  noted_map : (v : ℕ × SortId) (seen : List (ℕ × SortId)) → AllOf Small seen → Small v → noted (map sh seen) (sh v) ≡ map sh (noted seen v)
  noted_map v seen h l = ap (λ b. cond b (map sh seen) (map sh seen ++ sh v ∷ [])) (any_map v seen h l) ∙ noted_by v seen (list_any (λ w. w.0 == v.0) seen)

  small_by : (v : ℕ × SortId) (seen : List (ℕ × SortId)) (b : Bool) → AllOf Small seen → Small v → AllOf Small (cond b seen (seen ++ v ∷ []))
  small_by v seen true h l = h
  small_by v seen false h l = all_append Small seen (v ∷ []) h (l, tt)

  new_in_map : (seen vs : List (ℕ × SortId)) → AllOf Small seen → AllOf Small vs → new_in (map sh seen) (map sh vs) ≡ map sh (new_in seen vs)
  new_in_map seen [] h g = refl
  new_in_map seen (v ∷ vs) h g =
      ap (λ s. new_in s (map sh vs)) (noted_map v seen h g.0) ∙ new_in_map (noted seen v) vs (small_by v seen (list_any (λ w. w.0 == v.0) seen) h g.0) g.1

  -- ---- patterns

  -- a row of patterns, each with the number left free
  abbrev shifted_row : {j : _} → pattern.Row_of-Pattern j → List Pattern
  shifted_row row = fold_pattern_row (λ x s. var_pattern (moved k x) s) int_pattern app_pattern row

  mutual
    unfolding shifted occurrences

    occ_node : (x : pattern.PatternNode) → occurrences (shifted k (record { node = x })) ≡ map sh (occurrences (record { node = x }))
    occ_node (pattern.Var x s) = refl
    occ_node (pattern.Int z) = refl
    occ_node (pattern.App' op shape row) = occurrences-app (app_pattern op (shifted_row row)) op (shifted_row row) refl ∙ occ_row row

    occ_row : {j : _} (row : pattern.Row_of-Pattern j) → flat_map occurrences (shifted_row row) ≡ map sh (flat_map (λ vs. vs) (fold_pattern_row (λ x s. (x, s) ∷ []) (λ _. []) (λ _ vss. flat_map (λ vs. vs) vss) row))
    occ_row pattern.end_of-Pattern = refl
    occ_row (pattern.more_of-Pattern x rest) =
        ap (λ r. r ++ flat_map occurrences (shifted_row rest)) (occ_node x) ∙ ap (λ r. map sh (occurrences (record { node = x })) ++ r) (occ_row rest) ∙ sym (map_append sh _ _)

  occ_shifted : (q : Pattern) → occurrences (shifted k q) ≡ map sh (occurrences q)
  occ_shifted q = occ_node q.node

  module _ (shapes : Shapes) where
    mutual
      unfolding shifted pattern_sort

      sort_node : (x : pattern.PatternNode) → pattern_sort shapes (shifted k (record { node = x })) ≡ pattern_sort shapes (record { node = x })
      sort_node (pattern.Var x s) = refl
      sort_node (pattern.Int z) = refl
      sort_node (pattern.App' op shape row) = pattern_sort-app shapes (app_pattern op (shifted_row row)) op (shifted_row row) refl ∙ ap (sort_over (slice_get shapes.shapes op.0)) (sort_row row)

      sort_row : {j : _} (row : pattern.Row_of-Pattern j) → map (pattern_sort shapes) (shifted_row row) ≡ fold_pattern_row (λ x s. Some s) (sort_of_int shapes) (λ op found. sort_over (slice_get shapes.shapes op.0) found) row
      sort_row pattern.end_of-Pattern = refl
      sort_row (pattern.more_of-Pattern x rest) =
          ap (λ s. s ∷ map (pattern_sort shapes) (shifted_row rest)) (sort_node x) ∙ ap (λ ss. pattern_sort shapes (record { node = x }) ∷ ss) (sort_row rest)

    pub sort_shifted : (q : Pattern) → pattern_sort shapes (shifted k q) ≡ pattern_sort shapes q
    sort_shifted q = sort_node q.node

  variables_shifted : (q : Pattern) → AllOf Small (occurrences q) → variables (shifted k q) ≡ map sh (variables q)
  unfolding variables
  variables_shifted q h = ap (new_in []) (occ_shifted q) ∙ new_in_map [] (occurrences q) tt h

  -- ---- bound variables

  pub bound_map : (xs : List (ℕ × SortId)) (v : ℕ × SortId) → is_bound xs v ≡ true → is_bound (map sh xs) (sh v) ≡ true
  bound_map [] v b = not_true (sym b)
  bound_map (w ∷ xs) v b = ⊎_elim
      (λ here. let e : (w.0 == v.0 ≡ true) × (w.1.0 == v.1.0 ≡ true) = both (w.0 == v.0) (w.1.0 == v.1.0) here in
      or_left (moved k w.0 == moved k v.0 && w.1.0 == v.1.0) (is_bound (map sh xs) (sh v))
      (and_true (moved k w.0 == moved k v.0) (w.1.0 == v.1.0) (eq-eqb (moved k w.0) (moved k v.0) (ap (moved k) (eqb-true w.0 v.0 e.0))) e.1))
      (λ there. or_right (moved k w.0 == moved k v.0 && w.1.0 == v.1.0) (is_bound (map sh xs) (sh v)) (bound_map xs v there))
      (one (w.0 == v.0 && w.1.0 == v.1.0) (is_bound xs v) b)

  all_moved : (B B' : List (ℕ × SortId)) → ((v : ℕ × SortId) → is_bound B v ≡ true → is_bound B' (sh v) ≡ true) → (vs : List (ℕ × SortId)) → list_all (is_bound B) vs ≡ true → list_all (is_bound B') (map sh vs) ≡ true
  all_moved B B' f [] e = refl
  all_moved B B' f (v ∷ vs) e = let h : (is_bound B v ≡ true) × (list_all (is_bound B) vs ≡ true) = both (is_bound B v) (list_all (is_bound B) vs) e in
      and_true (is_bound B' (sh v)) (list_all (is_bound B') (map sh vs)) (f v h.0) (all_moved B B' f vs h.1)

  pub uses_moved : (B B' : List (ℕ × SortId)) (q : Pattern) → ((v : ℕ × SortId) → is_bound B v ≡ true → is_bound B' (sh v) ≡ true) → uses B q ≡ true → uses B' (shifted k q) ≡ true
  unfolding uses
  uses_moved B B' q f u = ap (list_all (is_bound B')) (occ_shifted q) ∙ all_moved B B' f (occurrences q) u

  pub numbered_moved : (sorts j : ℕ) (xs : List (ℕ × SortId)) → k ≤ j → j + length xs ≤ last_number → are_numbered sorts j xs ≡ true → are_numbered sorts (suc j) (map sh xs) ≡ true
  numbered_moved sorts j [] le few e = refl
  numbered_moved sorts j (v ∷ xs) le few e =
      let n : ((v.0 == j && nat_lt v.1.0 sorts) ≡ true) × (are_numbered sorts (suc j) xs ≡ true) = both (v.0 == j && nat_lt v.1.0 sorts) (are_numbered sorts (suc j) xs) e in
      let m : (v.0 == j ≡ true) × (nat_lt v.1.0 sorts ≡ true) = both (v.0 == j) (nat_lt v.1.0 sorts) n.0 in
      let is : v.0 ≡ j = eqb-true v.0 j m.0 in
      let next : moved k v.0 ≡ suc v.0 = moved_from k v.0 (omega arith) (omega arith) in
      let is' : moved k v.0 ≡ suc j = omega arith in
      and_true (moved k v.0 == suc j && nat_lt v.1.0 sorts) (are_numbered sorts (suc (suc j)) (map sh xs))
      (and_true (moved k v.0 == suc j) (nat_lt v.1.0 sorts) (eq-eqb (moved k v.0) (suc j) is') m.1)
      (numbered_moved sorts (suc j) xs (omega arith) (omega arith) n.1)

pub bound_left : (xs ys : List (ℕ × SortId)) (v : ℕ × SortId) → is_bound xs v ≡ true → is_bound (xs ++ ys) v ≡ true
bound_left [] ys v b = not_true (sym b)
bound_left (w ∷ xs) ys v b = ⊎_elim
    (λ here. or_left (w.0 == v.0 && w.1.0 == v.1.0) (is_bound (xs ++ ys) v) here)
    (λ there. or_right (w.0 == v.0 && w.1.0 == v.1.0) (is_bound (xs ++ ys) v) (bound_left xs ys v there))
    (one (w.0 == v.0 && w.1.0 == v.1.0) (is_bound xs v) b)

pub bound_last : (xs ys : List (ℕ × SortId)) (v : ℕ × SortId) → is_bound ys v ≡ true → is_bound (xs ++ ys) v ≡ true
bound_last [] ys v b = b
bound_last (w ∷ xs) ys v b = or_right (w.0 == v.0 && w.1.0 == v.1.0) (is_bound (xs ++ ys) v) (bound_last xs ys v b)

pub bound_either : (xs ys : List (ℕ × SortId)) (v : ℕ × SortId) → is_bound (xs ++ ys) v ≡ true → (is_bound xs v ≡ true) ⊎ (is_bound ys v ≡ true)
bound_either [] ys v b = inr b
bound_either (w ∷ xs) ys v b = ⊎_elim
    (λ here. inl (or_left (w.0 == v.0 && w.1.0 == v.1.0) (is_bound xs v) here))
    (λ there. ⊎_elim (λ l. inl (or_right (w.0 == v.0 && w.1.0 == v.1.0) (is_bound xs v) l)) (λ r. inr r) (bound_either xs ys v there))
    (one (w.0 == v.0 && w.1.0 == v.1.0) (is_bound (xs ++ ys) v) b)

-- the number of a bound variable
pub bound_number : (sorts j : ℕ) (xs : List (ℕ × SortId)) (v : ℕ × SortId) → are_numbered sorts j xs ≡ true → is_bound xs v ≡ true → v.0 < j + length xs
bound_number sorts j [] v e b = not_true (sym b)
bound_number sorts j (w ∷ xs) v e b =
    let n : ((w.0 == j && nat_lt w.1.0 sorts) ≡ true) × (are_numbered sorts (suc j) xs ≡ true) = both (w.0 == j && nat_lt w.1.0 sorts) (are_numbered sorts (suc j) xs) e in
    let first : w.0 ≡ j = eqb-true w.0 j (both (w.0 == j) (nat_lt w.1.0 sorts) n.0).0 in
    ⊎_elim
    (λ here. let same_number : w.0 ≡ v.0 = eqb-true w.0 v.0 (both (w.0 == v.0) (w.1.0 == v.1.0) here).0 in omega arith)
    (λ there. let more : v.0 < suc j + length xs = bound_number sorts (suc j) xs v n.1 there in omega arith)
    (one (w.0 == v.0 && w.1.0 == v.1.0) (is_bound xs v) b)

all_small : (sorts j : ℕ) (xs : List (ℕ × SortId)) (vs : List (ℕ × SortId)) → are_numbered sorts j xs ≡ true → j + length xs ≤ last_number → list_all (is_bound xs) vs ≡ true → AllOf Small vs
all_small sorts j xs [] n few e = tt
all_small sorts j xs (v ∷ vs) n few e =
    let h : (is_bound xs v ≡ true) × (list_all (is_bound xs) vs ≡ true) = both (is_bound xs v) (list_all (is_bound xs) vs) e in
    let low : v.0 < j + length xs = bound_number sorts j xs v n h.0 in
    (omega arith, all_small sorts j xs vs n few h.1)

uses_small : (sorts j : ℕ) (xs : List (ℕ × SortId)) (q : Pattern) → are_numbered sorts j xs ≡ true → j + length xs ≤ last_number → uses xs q ≡ true → AllOf Small (occurrences q)
unfolding uses
uses_small sorts j xs q n few u = all_small sorts j xs (occurrences q) n few u

pub binds_moved : (k sorts j : ℕ) (q : Pattern) → k ≤ j → j + length (variables q) ≤ last_number → binds sorts j q ≡ true → (binds sorts (suc j) (shifted k q) ≡ true) × (variables (shifted k q) ≡ map (sh k) (variables q))
unfolding binds
binds_moved k sorts j q le few b =
    let h : (are_numbered sorts j (variables q) ≡ true) × (uses (variables q) q ≡ true) = both (are_numbered sorts j (variables q)) (uses (variables q) q) b in
    let e : variables (shifted k q) ≡ map (sh k) (variables q) = variables_shifted k q (uses_small sorts j (variables q) q h.0 few h.1) in (
      and_true (are_numbered sorts (suc j) (variables (shifted k q))) (uses (variables (shifted k q)) (shifted k q))
          (subst (λ vs. are_numbered sorts (suc j) vs ≡ true) (sym e) (numbered_moved k sorts j (variables q) le few h.0))
          (subst (λ vs. uses vs (shifted k q) ≡ true) (sym e) (uses_moved k (variables q) (map (sh k) (variables q)) q (bound_map k (variables q)) h.1)),
      e,
    )
