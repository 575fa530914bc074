-- One level of meaning keeps kinds where the level below does.
use Rattle.std.proofs.Common.{◌≡◌, refl, sym, ap, ◌∙◌, subst, ℕ, zero, suc, ◌&&◌, ◌==◌, nat_lt, Bool, true, false, Option, None, Some, List, [], ◌∷◌, ◌++◌, length, map, Contains, ltb-false, eqb-true}
use Rattle.std.specs.Prelude.{slice_get, if◌then◌else◌, pos}
use Rattle.std.specs.List.{flat_map, list_all, AllZip}
use Rattle.std.specs.Option.{option_and_then}
use Rattle.elan_terms.specs.declared.tree.OpId.{OpId}
use Rattle.elan_terms.specs.declared.tree.SortId.{SortId}
use Rattle.elan_terms.specs.declared.tree.Shapes.{Shapes}
use Rattle.elan_terms.specs.declared.tree.Term.{Term}
use Rattle.elan_terms.specs.declared.tree.TermNode as term
use Rattle.elan_terms.specs.declared.tree.Pattern.{Pattern}
use Rattle.elan_terms.specs.declared.tree.PatternNode as pattern
use Rattle.elan_terms.specs.Trees.{fold_row, fold_pattern_row, case_node, int_term, app_term}
use Rattle.elan_terms.specs.Term.{depth, node, sort_of, shape_sort}
use Rattle.elan_terms.specs.Match.{matches, is_sort, occurrences, variables}
use Rattle.elan_program.specs.declared.strategy.Scope.TheVariants.{Outside, Inside}
use Rattle.elan_program.specs.declared.strategy.Strategy.{Strategy}
use Rattle.elan_program.specs.declared.strategy.StrategyNode.{StrategyNode, Row_of-Strategy, end_of-Strategy, more_of-Strategy}
use Rattle.elan_program.specs.declared.strategy.StrategyNode.TheVariants as made
use Rattle.elan_program.specs.declared.program.Clause.{Clause}
use Rattle.elan_program.specs.declared.program.Clause.TheVariants.{If, Where}
use Rattle.elan_program.specs.declared.program.Rule.{Rule}
use Rattle.elan_program.specs.declared.program.Named.{Named}
use Rattle.elan_program.specs.declared.program.Program.{Program}
use Rattle.elan_program.specs.Signature.{shapes_of}
use Rattle.elan_program.specs.Strategies.{Layer, para_node, para_row, firsts, seconds, with_actuals}
use Rattle.elan_program.specs.Soundness.{same_sort, is_some_list, truth_sort}
use Rattle.elan_program.specs.Patterns.{pattern_sort, sort_of_int, sort_over, uses, is_bound, are_numbered, binds}
use Rattle.elan_program.specs.Validity.{is_valid_strategy, is_valid_layer, congruence_fits, congruent_sorts, each_fits, is_valid_if, is_valid_where, is_truth, are_joined, where_true, bound_by, is_named_for}
use Rattle.elan_program.specs.Extension.{unlabelled}
use Rattle.elan_program.proofs.ActualLemmas.{actuals_valid}
use Rattle.elan_program.proofs.ValidLemmas.{valid-repeat, valid-iterate}
use Rattle.elan_program.specs.Builtins.{reduced, is_true}
use Rattle.elan_terms.specs.Valid.{HasSort, IsValid, IsValidOf, IsAllowed, IsNumber}
use Rattle.elan_terms.specs.Canonical.{IsCanonical}
use Rattle.elan_terms.specs.Nodes.{EachOfRow}
use Rattle.elan_laws.specs.Matching.{filled}
use Rattle.elan_terms.specs.Canonical.{IsSettled}
use Rattle.elan_terms.proofs.Lists.{AllOf, all_in, contains_of_in}
use Rattle.elan_terms.proofs.Sorting.{not_true}
use Rattle.elan_laws.proofs.MatchLaws.{is_sort-some}
use Rattle.elan_laws.proofs.SortLaws.{pattern_suits}
use Rattle.elan_meaning.specs.declared.item.Item.{Item}
use Rattle.elan_meaning.specs.declared.item.Entry.{Entry}
use Rattle.elan_meaning.specs.declared.item.Item.TheVariants.{Res, Mark}
use Rattle.elan_meaning.specs.declared.item.Cause.TheVariants.{Depth}
use Rattle.elan_meaning.specs.Items.{first_of, first_or, items_of, then_after, then_before, matched, in_turn, rows, paired, sequence}
use Rattle.elan_meaning.specs.Meaning as meaning
use Rattle.elan_meaning.specs.Meaning.{Meaning, max_depth, pattern_of, value_of}
use Rattle.elan_kinds.specs.Kinds.{IsKind, Given, Results, Rows, IsWell, IsFor}
use Rattle.elan_kinds.proofs.Keeping.{IsGood, Keeps}
use Rattle.elan_kinds.proofs.ListLemmas.{results_append, results_all, results_flat, results_or_else, results_chosen, results_first_or, results_map, results_then, results_items, results_one, rows_flat, rows_then, rows_one, rows_before, rows_after}
use Rattle.elan_kinds.proofs.SortFits.{both, some_inside, not_some, KindIf, node_fits, allowed_over}
use Rattle.elan_kinds.proofs.Values.{value_kind, given_append, all_bound}
use Rattle.elan_kinds.proofs.Parts.{match_kinds, match_given, match_sort}
use Rattle.elan_kinds.proofs.Ground.{own_sort, own_uses}
use Rattle.elan_kinds.proofs.Congruences.{solid_row, shallow_row, kinds_of, taken_sorts, made_valid}

-- ---- what a valid condition says

pub no_list : {A : Type 0} (l : List (ℕ × SortId)) → None ≡ Some l → A
no_list l e = absurd (differ e)
  where
    differ : None ≡ Some l → ⊥
    differ f = cc

pub list_inside : (l l' : List (ℕ × SortId)) → Some l ≡ Some l' → l ≡ l'
list_inside l l' e = ap (λ o. elim o as (λ _. List (ℕ × SortId)) [ None ↦ [] | Some x ↦ x ]) e

pub passed : (b : Bool) (bound : List (ℕ × SortId)) (f : List (ℕ × SortId) → Option (List (ℕ × SortId))) (later : List (ℕ × SortId)) → option_and_then f (where_true b bound) ≡ Some later → (b ≡ true) × (f bound ≡ Some later)
passed true bound f later e = (refl, e)
passed false bound f later e = no_list later e

truth_well : (o found : Option SortId) → is_truth o found ≡ true → (s : SortId) × (found ≡ Some s)
truth_well None found e = not_true (sym e)
truth_well (Some s) found e = (s, is_sort-some found s e)

pub joined : (p : Program) (l o : Option SortId) (by : Strategy) → are_joined p l o by ≡ true → (s : SortId) × (o ≡ Some s) × IsFor p s by
joined p None o by e = not_true (sym e)
joined p (Some s) o by e = let k : (is_sort o s ≡ true) × IsFor p s by = both (is_sort o s) (is_valid_strategy p Outside by s) e in (s, is_sort-some o s k.0, k.1)

all_at : {X : Type 0} (P : X → Type 0) (xs : List X) → ((x : X) → P x) → AllOf P xs
all_at P [] f = tt
all_at P (x ∷ xs) f = (f x, all_at P xs f)

module _ (p : Program) (M : Meaning) (keeps : Keeps p M)
    (reduces : (s : SortId) (u : Term) → IsKind p s u → IsKind p s (reduced p.signature u))
    (unlabelled_good : AllOf (IsGood p) (unlabelled p))
    (rules_good : (k : ℕ) (r : Rule) → slice_get p.rules k ≡ Some r → IsGood p r)
    (named_valid : (k : ℕ) (d : Named) → slice_get p.named k ≡ Some d → is_valid_strategy p (Inside d.parameters d.sort) d.body d.sort ≡ true) where
  abbrev shapes : Shapes
  shapes = shapes_of p.signature

  -- ---- rules

  taken_up : (r : Rule) (s : SortId) (t : Term) (m : ℕ) (a : List Term) → IsGood p r → IsKind p s t → Contains (matches shapes r.left t) a → Results (IsKind p s) (meaning.taken_up p M r m a)
  taken_up r s t zero a g k c = tt
  taken_up r s t (suc m) a g k c = subst (λ q. Results (IsKind p q) (meaning.taken_up p M r (suc m) a)) (sym (match_sort p r g s t k a c))
      (results_items (IsKind p r.sort) (Given p g.later) (M.clauses r.clauses a m) (λ b m. M.normal r.right b m ∷ [])
      (keeps.clauses r.clauses (variables r.left) g.later a m g.bound (match_given p r g s t k a c))
      (λ b i h. keeps.normal r.right g.later b r.sort i g.right h))

  pub apply : (r : Rule) (s : SortId) (t : Term) (m : ℕ) → IsGood p r → IsKind p s t → Results (IsKind p s) (meaning.apply p M r t m)
  unfolding meaning.apply
  apply r s t m g k = results_flat (IsKind p s) (matches shapes r.left t) (meaning.taken_up p M r m)
      (all_in (λ a. Results (IsKind p s) (meaning.taken_up p M r m a)) (matches shapes r.left t) (λ a i. taken_up r s t m a g k (contains_of_in (matches shapes r.left t) a i)))

  tried : (rs : List Rule) (s : SortId) (t : Term) (m : ℕ) → AllOf (IsGood p) rs → IsKind p s t → Results (IsKind p s) (meaning.tried p M rs t m)
  tried [] s t m g k = tt
  tried (r ∷ rs) s t m g k = results_or_else (IsKind p s) (meaning.apply p M r t m) (meaning.tried p M rs t m) (apply r s t m g.0 k) (tried rs s t m g.1 k)

  -- ---- normalising

  settled_by : (s : SortId) (u : Term) (m : ℕ) (b : Bool) → nat_lt max_depth (depth u) ≡ b → IsValidOf shapes s u → IsCanonical shapes u
      → Results (IsKind p s) ((if b then Mark Depth else first_or (meaning.tried p M (unlabelled p) (reduced p.signature u) m) (Res (reduced p.signature u) m)) ∷ [])
  settled_by s u m true e v c = tt
  settled_by s u m false e v c =
      let k : IsKind p s (reduced p.signature u) = reduces s u (record { suits = v; canonical = c; shallow = ltb-false max_depth (depth u) e }) in
      results_first_or (IsKind p s) (meaning.tried p M (unlabelled p) (reduced p.signature u) m) (Res (reduced p.signature u) m) (tried (unlabelled p) s (reduced p.signature u) m unlabelled_good k) (k, tt)

  pub settled : (s : SortId) (u : Term) (m : ℕ) → IsValidOf shapes s u → IsCanonical shapes u → Results (IsKind p s) (meaning.of_node p M u m ∷ [])
  unfolding meaning.of_node
  settled s u m v c = settled_by s u m (nat_lt max_depth (depth u)) refl v c

  if_sorted : (o : Option SortId) (is : List Item) → ((s : SortId) → o ≡ Some s → Results (IsKind p s) is) → Results (KindIf p o) is
  if_sorted None is f = results_all (KindIf p None) is (λ t s e. not_some s e)
  if_sorted (Some r) is f = results_map (KindIf p (Some r)) (IsKind p r) is (f r refl) (λ t k s e. subst (λ q. IsKind p q t) (some_inside r s e) k)

  int_kind : (z : _) (s : SortId) → sort_of_int shapes z ≡ Some s → IsValidOf shapes s (int_term z)
  unfolding pattern_sort occurrences filled
  int_kind z s e = pattern_suits shapes (λ _. int_term (pos 0)) (record { node = pattern.Int z }) s e tt

  module _ (a : List Term) where
    -- the value of a variable is of its kind
    abbrev Held : ℕ × SortId → Type 0
    Held v = IsKind p v.1 (value_of a v.0)

    all_first : {X : Type 0} (P : X → Type 0) (xs ys : List X) → AllOf P (xs ++ ys) → AllOf P xs
    all_first P [] ys h = tt
    all_first P (x ∷ xs) ys h = (h.0, all_first P xs ys h.1)

    all_second : {X : Type 0} (P : X → Type 0) (xs ys : List X) → AllOf P (xs ++ ys) → AllOf P ys
    all_second P [] ys h = h
    all_second P (x ∷ xs) ys h = all_second P xs ys h.1

    -- the sorts of a row of patterns
    abbrev sorts_of : {j : _} → pattern.Row_of-Pattern j → List (Option SortId)
    sorts_of row = fold_pattern_row (λ x s. Some s) (sort_of_int shapes) (λ op found. sort_over (slice_get shapes.shapes op.0) found) row

    -- what a row of patterns gives
    abbrev row_of_items : {j : _} → pattern.Row_of-Pattern j → ℕ → Entry
    row_of_items row m = in_turn (fold_pattern_row (meaning.of_var p M) (meaning.of_int p M) (meaning.of_app p M) row) a m

    mutual
      unfolding meaning.normal meaning.of_args then_after pattern_sort occurrences

      normal_node : (x : pattern.PatternNode) (s : SortId) (m : ℕ) → pattern_sort shapes (record { node = x }) ≡ Some s → AllOf Held (occurrences (record { node = x })) → Results (IsKind p s) (meaning.normal p M (record { node = x }) a m ∷ [])
      normal_node (pattern.Var x sort) s m e h = (subst (λ q. IsKind p q (value_of a x)) (some_inside sort s e) h.0, tt)
      normal_node (pattern.Int z) s m e h = settled s (int_term z) m (int_kind z s e) tt
      normal_node (pattern.App' op shape row) s m e h =
          results_one (IsKind p s) (AllZip (KindIf p) (sorts_of row)) (row_of_items row m) (meaning.of_args p M op) (normal_row row m h)
          (λ us i z. let k : IsValidOf shapes s (node shapes op us) × IsCanonical shapes (node shapes op us) = node_fits p op (sorts_of row) us s e z in settled s (node shapes op us) i k.0 k.1)

      normal_row : {j : _} (row : pattern.Row_of-Pattern j) (m : ℕ) → AllOf Held (flat_map (λ vs. vs) (fold_pattern_row (λ x s. (x, s) ∷ []) (λ _. []) (λ _ vss. flat_map (λ vs. vs) vss) row))
          → Rows (AllZip (KindIf p) (sorts_of row)) (row_of_items row m ∷ [])
      normal_row pattern.end_of-Pattern m h = (tt, tt)
      normal_row (pattern.more_of-Pattern x rest) m h =
          rows_one (AllZip (KindIf p) (pattern_sort shapes (record { node = x }) ∷ sorts_of rest)) (KindIf p (pattern_sort shapes (record { node = x })))
          (meaning.normal p M (record { node = x }) a m) (then_after (row_of_items rest))
          (if_sorted (pattern_sort shapes (record { node = x })) (meaning.normal p M (record { node = x }) a m ∷ []) (λ s e. normal_node x s m e (all_first Held _ _ h)))
          (λ u i k. rows_after (AllZip (KindIf p) (pattern_sort shapes (record { node = x }) ∷ sorts_of rest)) (AllZip (KindIf p) (sorts_of rest)) u (row_of_items rest i) (normal_row rest i (all_second Held _ _ h)) (λ ts z. (k, z)))

  normal : (q : Pattern) (bound : List (ℕ × SortId)) (a : List Term) (s : SortId) (m : ℕ) → IsWell p bound s q → Given p bound a → Results (IsKind p s) (meaning.normal p M q a m ∷ [])
  unfolding uses
  normal q bound a s m w g = normal_node a q.node s m w.sorted (all_bound p (Held a) (is_bound bound) (occurrences q) (λ v b. value_kind p bound a v g b) w.used)

  -- ---- positions

  again_or : (place s : SortId) (by : Strategy) (u : Term) (m : ℕ) (is : List Item) → IsFor p place by → IsKind p s u → Results (IsKind p s) is → Results (IsKind p s) (meaning.again_or p M place by u m is)
  again_or place s by u m [] f k h = (k, tt)
  again_or place s by u m (i ∷ is) f k h = results_then (IsKind p s) (IsKind p s) (i ∷ is) (M.positions place by) h (λ t j q. keeps.positions place s by t j f q)

  at_node : (place s : SortId) (by : Strategy) (u : Term) (m : ℕ) → IsFor p place by → place ≡ s → IsKind p s u → Results (IsKind p s) (meaning.at_node p M place by u m)
  at_node place s by u zero f e k = tt
  at_node place s by u (suc m) f e k = again_or place s by u m (M.strategy by u m) f k (keeps.strategy s by u m (subst (λ q. IsFor p q by) e f) k)

  placed_in : (place s : SortId) (by : Strategy) (u : Term) (m : ℕ) (b : Bool) → is_sort (sort_of shapes u) place ≡ b → IsFor p place by → IsKind p s u
      → Results (IsKind p s) (if b then meaning.at_node p M place by u m else Res u m ∷ [])
  placed_in place s by u m true e f k = at_node place s by u m f (some_inside place s (sym (is_sort-some (sort_of shapes u) place e) ∙ k.suits.1)) k
  placed_in place s by u m false e f k = (k, tt)

  placed_by : (place s : SortId) (by : Strategy) (u : Term) (m : ℕ) (b : Bool) → nat_lt max_depth (depth u) ≡ b → IsFor p place by → IsValidOf shapes s u → IsCanonical shapes u
      → Results (IsKind p s) (if b then Mark Depth ∷ [] else (if is_sort (sort_of shapes u) place then meaning.at_node p M place by u m else Res u m ∷ []))
  placed_by place s by u m true e f v c = tt
  placed_by place s by u m false e f v c = placed_in place s by u m (is_sort (sort_of shapes u) place) refl f (record { suits = v; canonical = c; shallow = ltb-false max_depth (depth u) e })

  placed : (place s : SortId) (by : Strategy) (u : Term) (m : ℕ) → IsFor p place by → IsValidOf shapes s u → IsCanonical shapes u → Results (IsKind p s) (meaning.placed p M place by u m)
  unfolding meaning.placed
  placed place s by u m f v c = placed_by place s by u m (nat_lt max_depth (depth u)) refl f v c

  module _ (place : SortId) (by : Strategy) (for_place : IsFor p place by) where
    -- the sorts of a row of terms
    abbrev row_sorts : {j : _} → term.Row_of-Term j → List (Option SortId)
    row_sorts row = map (sort_of shapes) (term.items-the_row-Term _ row)

    -- what a row of terms gives
    abbrev row_items : {j : _} → term.Row_of-Term j → ℕ → List Entry
    row_items row m = rows (fold_row (meaning.at_int p M place by) (meaning.at_app p M place by) row) m

    mutual
      unfolding meaning.positions meaning.placed_node then_before sort_of

      positions_node : (x : term.TermNode) (s : SortId) (m : ℕ) → IsValid shapes (record { node = x }) → IsCanonical shapes (record { node = x }) → HasSort shapes (record { node = x }) s
          → Results (IsKind p s) (meaning.positions p M place by (record { node = x }) m)
      positions_node (term.Int z) s m v c e = placed place s by (int_term z) m for_place (v, e) tt
      positions_node (term.App' op shape row) s m v c e =
          results_items (IsKind p s) (AllZip (KindIf p) (row_sorts row)) (row_items row m) (meaning.placed_node p M place by op) (positions_row row m v.1 c.1)
          (λ us i z. let k : IsValidOf shapes s (node shapes op us) × IsCanonical shapes (node shapes op us)
          = node_fits p op (row_sorts row) us s (allowed_over p (slice_get shapes.shapes op.0) (term.items-the_row-Term _ row) v.0 ∙ e) z in
          placed place s by (node shapes op us) i for_place k.0 k.1)

      positions_row : {j : _} (row : term.Row_of-Term j) (m : ℕ) → EachOfRow (IsNumber shapes) (IsAllowed shapes) row → EachOfRow (λ _. Unit {0}) (IsSettled shapes) row
          → Rows (AllZip (KindIf p) (row_sorts row)) (row_items row m)
      positions_row term.end_of-Term m v c = (tt, tt)
      positions_row (term.more_of-Term x rest) m v c =
          rows_then (AllZip (KindIf p) (sort_of shapes (record { node = x }) ∷ row_sorts rest)) (KindIf p (sort_of shapes (record { node = x })))
          (meaning.positions p M place by (record { node = x }) m) (then_before (row_items rest))
          (if_sorted (sort_of shapes (record { node = x })) (meaning.positions p M place by (record { node = x }) m) (λ s e. positions_node x s m v.0 c.0 e))
          (λ u i k. rows_before (AllZip (KindIf p) (sort_of shapes (record { node = x }) ∷ row_sorts rest)) (AllZip (KindIf p) (row_sorts rest)) u (row_items rest i) (positions_row rest i v.1 c.1) (λ ts z. (k, z)))

  positions : (place s : SortId) (by : Strategy) (t : Term) (m : ℕ) → IsFor p place by → IsKind p s t → Results (IsKind p s) (meaning.positions p M place by t m)
  positions place s by t m f k = positions_node place by f t.node s m k.suits.0 k.canonical k.suits.1

  -- ---- strategies

  normal_term : (s : SortId) (u : Term) (m : ℕ) → IsValidOf shapes s u → Results (IsKind p s) (meaning.normal_term p M u m)
  unfolding meaning.normal_term
  normal_term s u m k = normal (pattern_of u) [] [] s m (record { used = own_uses shapes u; sorted = own_sort shapes u k.0 ∙ k.1 }) (record { numbered = refl; values = tt })

  apply_found : (s : SortId) (t : Term) (m : ℕ) (o : Option Rule) → ((r : Rule) → o ≡ Some r → IsGood p r) → IsKind p s t → Results (IsKind p s) (meaning.apply_found p M t m o)
  apply_found s t m None f k = tt
  apply_found s t m (Some r) f k = apply r s t m (f r refl) k

  apply_number : (s : SortId) (t : Term) (m j : ℕ) → IsKind p s t → Results (IsKind p s) (meaning.apply_number p M t m j)
  unfolding meaning.apply_number
  apply_number s t m j k = apply_found s t m (slice_get p.rules j) (rules_good j) k

  -- the body of a named strategy with its actuals
  body_for : (s : SortId) (d : Named) (actuals : List Strategy) → is_named_for s (length actuals) (Some d) ≡ true
      → list_all (λ a. is_valid_strategy p Outside a s) actuals ≡ true → is_valid_strategy p (Inside d.parameters d.sort) d.body d.sort ≡ true
      → IsFor p s (with_actuals actuals d.body)
  body_for s d actuals e fit f =
      let h : (same_sort d.sort s ≡ true) × (d.parameters == length actuals ≡ true) = both (same_sort d.sort s) (d.parameters == length actuals) e in
      subst (λ (i : ℕ). list_all (λ a. is_valid_strategy p Outside a (record { 0 = i })) actuals ≡ true → IsFor p (record { 0 = i }) (with_actuals actuals d.body))
      (eqb-true d.sort.0 s.0 h.0)
      (λ own_fit. actuals_valid p d.sort actuals own_fit d.body d.sort
      (subst (λ (c : ℕ). is_valid_strategy p (Inside c d.sort) d.body d.sort ≡ true) (eqb-true d.parameters (length actuals) h.1) f))
      fit

  call : (s : SortId) (d : Option Named) (actuals : List Strategy) (t : Term) (m : ℕ) → is_named_for s (length actuals) d ≡ true
      → list_all (λ a. is_valid_strategy p Outside a s) actuals ≡ true
      → ((n : Named) → d ≡ Some n → is_valid_strategy p (Inside n.parameters n.sort) n.body n.sort ≡ true)
      → IsKind p s t → Results (IsKind p s) (meaning.call p M d actuals t m)
  call s d actuals t zero e fit f k = tt
  call s None actuals t (suc m) e fit f k = tt
  call s (Some d) actuals t (suc m) e fit f k = keeps.strategy s (with_actuals actuals d.body) t m (body_for s d actuals e fit (f d refl)) k

  repeat_or : (s : SortId) (by : Strategy) (t : Term) (m : ℕ) (is : List Item) → IsFor p s (record { node = made.Repeat by }) → IsKind p s t → Results (IsKind p s) is → Results (IsKind p s) (meaning.repeat_or p M by t m is)
  repeat_or s by t m [] f k h = (k, tt)
  repeat_or s by t m (i ∷ is) f k h = results_then (IsKind p s) (IsKind p s) (i ∷ is) (M.strategy (record { node = made.Repeat by })) h (λ u j q. keeps.strategy s (record { node = made.Repeat by }) u j f q)

  repeat : (s : SortId) (by : Strategy) (t : Term) (m : ℕ) → IsFor p s by → IsFor p s (record { node = made.Repeat by }) → IsKind p s t → Results (IsKind p s) (meaning.repeat p M by t m)
  repeat s by t zero f g k = tt
  repeat s by t (suc m) f g k = repeat_or s by t m (M.strategy by t m) g k (keeps.strategy s by t m f k)

  iterate : (s : SortId) (by : Strategy) (t : Term) (m : ℕ) → IsFor p s by → IsFor p s (record { node = made.Iterate by }) → IsKind p s t → Results (IsKind p s) (meaning.iterate p M by t m)
  iterate s by t zero f g k = tt
  iterate s by t (suc m) f g k = (k, results_then (IsKind p s) (IsKind p s) (M.strategy by t m) (M.strategy (record { node = made.Iterate by })) (keeps.strategy s by t m f k) (λ u j q. keeps.strategy s (record { node = made.Iterate by }) u j g q))

  iterate_plus : (s : SortId) (by : Strategy) (t : Term) (m : ℕ) → IsFor p s by → IsFor p s (record { node = made.Iterate by }) → IsKind p s t → Results (IsKind p s) (meaning.iterate_plus p M by t m)
  iterate_plus s by t zero f g k = tt
  iterate_plus s by t (suc m) f g k = results_then (IsKind p s) (IsKind p s) (M.strategy by t m) (M.strategy (record { node = made.Iterate by })) (keeps.strategy s by t m f k) (λ u j q. keeps.strategy s (record { node = made.Iterate by }) u j g q)

  repeat_for : (s : SortId) (by : Strategy) → IsFor p s by → IsFor p s (record { node = made.Repeat by })
  repeat_for s by e = valid-repeat p Outside (record { node = made.Repeat by }) s by refl ∙ e

  iterate_for : (s : SortId) (by : Strategy) → IsFor p s by → IsFor p s (record { node = made.Iterate by })
  iterate_for s by e = valid-iterate p Outside (record { node = made.Iterate by }) s by refl ∙ e

  -- ---- congruences

  results_if : (s : SortId) (b : Bool) (is : List Item) → (b ≡ true → Results (IsKind p s) is) → Results (IsKind p s) (if b then is else [])
  results_if s true is f = f refl
  results_if s false is f = tt

  congruent : (op : OpId) (s : SortId) (fs : List (Term → ℕ → List Item)) (sorts : List SortId) (x : term.TermNode) (m : ℕ)
      → congruent_sorts (slice_get p.signature.operators op.0) ≡ Some sorts → IsKind p s (record { node = x })
      → ((us : List Term) → AllZip (IsKind p) sorts us → Rows (AllZip (IsKind p) sorts) (rows (paired fs us) m))
      → Results (IsKind p s) (case_node (meaning.not_headed p M) (meaning.congruent p M op fs m) x)
  unfolding meaning.normal_app sort_of
  congruent op s fs sorts (term.Int z) m e k h = tt
  congruent op s fs sorts (term.App' head shape row) m e k h =
      let us : List Term = term.items-the_row-Term _ row in
      results_if s (op.0 == head.0) (items_of (rows (paired fs us) m) (meaning.normal_app p M op)) (λ same.
      let number : head.0 ≡ op.0 = sym (eqb-true op.0 head.0 same) in
      let allowed : IsAllowed shapes op us = subst (λ (i : ℕ). IsAllowed shapes (record { 0 = i }) us) number k.suits.0.0 in
      let own : shape_sort (slice_get shapes.shapes op.0) ≡ Some s = subst (λ (i : ℕ). shape_sort (slice_get shapes.shapes i) ≡ Some s) number k.suits.1 in
      let args : AllZip (IsKind p) sorts us
      = kinds_of p us sorts (solid_row p row k.suits.0.1 k.canonical.1) (taken_sorts p op sorts e us allowed) (shallow_row p head shape row k.shallow) in
      results_items (IsKind p s) (AllZip (IsKind p) sorts) (rows (paired fs us) m) (meaning.normal_app p M op) (h us args)
      (λ vs i z. normal_term s (app_term op vs) i (made_valid p op sorts e vs s own z)))

  -- what a recursion over strategies has beside them does not change them
  firsts_length : {A B : Type 0} (f : Layer (Strategy × A) → A) (g : Layer (Strategy × B) → B) {j : _} (row : Row_of-Strategy j)
      → length (para_row f row) ≡ length (firsts (para_row g row))
  firsts_length f g end_of-Strategy = refl
  firsts_length f g (more_of-Strategy x rest) = ap suc (firsts_length f g rest)

  firsts_fit : {A : Type 0} (g : Layer (Strategy × A) → A) (s : SortId) {j : _} (row : Row_of-Strategy j)
      → list_all (λ a. a.1 s) (para_row (is_valid_layer p Outside) row) ≡ list_all (λ a. is_valid_strategy p Outside a s) (firsts (para_row g row))
  unfolding is_valid_strategy
  firsts_fit g s end_of-Strategy = refl
  firsts_fit g s (more_of-Strategy x rest) = ap (λ b. para_node (is_valid_layer p Outside) x s && b) (firsts_fit g s rest)

  -- a congruence that fits has argument sorts that its strategies fit
  fit_sorts : (o : Option (List SortId)) (ss : List (Strategy × (SortId → Bool))) → congruence_fits (λ a. a.1) ss o ≡ true
      → (sorts : List SortId) × (o ≡ Some sorts) × (each_fits (λ a. a.1) ss sorts ≡ true)
  fit_sorts None ss e = not_true (sym e)
  fit_sorts (Some sorts) ss e = (sorts, refl, (both (is_some_list ss) (each_fits (λ a. a.1) ss sorts) e).1)

  -- ---- all kinds of strategy

  abbrev for_node : StrategyNode → SortId → Bool
  for_node = para_node (is_valid_layer p Outside)

  mutual
    unfolding meaning.strategy meaning.arm_list is_valid_strategy then_before

    strategy_node : (x : StrategyNode) (s : SortId) (t : Term) (m : ℕ) → for_node x s ≡ true → IsKind p s t → Results (IsKind p s) (para_node (meaning.at_level p M) x t m)
    strategy_node made.Id s t m e k = (k, tt)
    strategy_node made.Fail s t m e k = tt
    strategy_node (made.Label rules) s t m e k = results_flat (IsKind p s) rules (meaning.apply_number p M t m) (all_at (λ j. Results (IsKind p s) (meaning.apply_number p M t m j)) rules (λ j. apply_number s t m j k))
    strategy_node (made.Call' d shape row) s t m e k =
        let actuals : List Strategy = firsts (para_row (meaning.at_level p M) row) in
        let f : (is_named_for s (length (para_row (is_valid_layer p Outside) row)) (slice_get p.named d) ≡ true) × (list_all (λ a. a.1 s) (para_row (is_valid_layer p Outside) row) ≡ true) = both _ _ e in
        call s (slice_get p.named d) actuals t m
        (subst (λ (i : ℕ). is_named_for s i (slice_get p.named d) ≡ true) (firsts_length (is_valid_layer p Outside) (meaning.at_level p M) row) f.0)
        (sym (firsts_fit (meaning.at_level p M) s row) ∙ f.1) (named_valid d) k
    strategy_node (made.Param i) s t m e k = tt
    strategy_node (made.Seq' shape arms) s t m e k = sequence_row arms s t m e k
    strategy_node (made.All' shape arms) s t m e k = all_row arms s t m e k
    strategy_node (made.First' one shape arms) s t m e k = results_chosen (IsKind p s) one (first_of (map (meaning.arm_list p M t m) (para_row (meaning.at_level p M) arms))) (first_row arms s t m e k)
    strategy_node (made.Repeat' shape (more_of-Strategy by end_of-Strategy)) s t m e k = repeat s (record { node = by }) t m e (repeat_for s (record { node = by }) e) k
    strategy_node (made.Iterate' shape (more_of-Strategy by end_of-Strategy)) s t m e k = iterate s (record { node = by }) t m e (iterate_for s (record { node = by }) e) k
    strategy_node (made.IteratePlus' shape (more_of-Strategy by end_of-Strategy)) s t m e k = iterate_plus s (record { node = by }) t m e (iterate_for s (record { node = by }) e) k
    strategy_node (made.Normalise' place shape (more_of-Strategy by end_of-Strategy)) s t m e k =
        let f : (same_sort place s ≡ true) × (for_node by s ≡ true) = both (same_sort place s) (for_node by s) e in
        results_then (IsKind p s) (IsKind p s) (meaning.positions p M place (record { node = by }) t m) (meaning.normal_term p M)
        (positions place s (record { node = by }) t m (subst (λ (i : ℕ). IsFor p (record { 0 = i }) (record { node = by })) (sym (eqb-true place.0 s.0 f.0)) f.1) k)
        (λ u i q. normal_term s u i q.suits)
    strategy_node (made.Cong' op shape row) s t m e k =
        let f : (sorts : List SortId) × (congruent_sorts (slice_get p.signature.operators op.0) ≡ Some sorts) × (each_fits (λ a. a.1) (para_row (is_valid_layer p Outside) row) sorts ≡ true)
        = fit_sorts (congruent_sorts (slice_get p.signature.operators op.0)) (para_row (is_valid_layer p Outside) row) e in
        congruent op s (seconds (para_row (meaning.at_level p M) row)) f.0 t.node m f.1 k (λ us z. congruent_row row f.0 us m f.2 z)

    congruent_row : {j : _} (arms : Row_of-Strategy j) (sorts : List SortId) (us : List Term) (m : ℕ) → each_fits (λ a. a.1) (para_row (is_valid_layer p Outside) arms) sorts ≡ true
        → AllZip (IsKind p) sorts us → Rows (AllZip (IsKind p) sorts) (rows (paired (seconds (para_row (meaning.at_level p M) arms)) us) m)
    congruent_row end_of-Strategy [] [] m e z = (tt, tt)
    congruent_row end_of-Strategy [] (u ∷ us) m e z = absurd z
    congruent_row end_of-Strategy (s ∷ sorts) us m e z = not_true (sym e)
    congruent_row (more_of-Strategy x rest) [] us m e z = not_true (sym e)
    congruent_row (more_of-Strategy x rest) (s ∷ sorts) [] m e z = absurd z
    congruent_row (more_of-Strategy x rest) (s ∷ sorts) (u ∷ us) m e z =
        let f : (for_node x s ≡ true) × (each_fits (λ a. a.1) (para_row (is_valid_layer p Outside) rest) sorts ≡ true) = both _ _ e in
        rows_then (AllZip (IsKind p) (s ∷ sorts)) (IsKind p s) (para_node (meaning.at_level p M) x u m) (then_before (rows (paired (seconds (para_row (meaning.at_level p M) rest)) us)))
        (strategy_node x s u m f.0 z.0)
        (λ v i q. rows_before (AllZip (IsKind p) (s ∷ sorts)) (AllZip (IsKind p) sorts) v (rows (paired (seconds (para_row (meaning.at_level p M) rest)) us) i)
        (congruent_row rest sorts us i f.1 z.1) (λ ts y. (q, y)))

    sequence_row : {j : _} (arms : Row_of-Strategy j) (s : SortId) (t : Term) (m : ℕ) → list_all (λ a. a.1 s) (para_row (is_valid_layer p Outside) arms) ≡ true → IsKind p s t
        → Results (IsKind p s) (sequence (seconds (para_row (meaning.at_level p M) arms)) t m)
    sequence_row end_of-Strategy s t m e k = (k, tt)
    sequence_row (more_of-Strategy x rest) s t m e k =
        let f : (for_node x s ≡ true) × (list_all (λ a. a.1 s) (para_row (is_valid_layer p Outside) rest) ≡ true) = both _ _ e in
        results_then (IsKind p s) (IsKind p s) (para_node (meaning.at_level p M) x t m) (sequence (seconds (para_row (meaning.at_level p M) rest)))
        (strategy_node x s t m f.0 k) (λ u i q. sequence_row rest s u i f.1 q)

    all_row : {j : _} (arms : Row_of-Strategy j) (s : SortId) (t : Term) (m : ℕ) → list_all (λ a. a.1 s) (para_row (is_valid_layer p Outside) arms) ≡ true → IsKind p s t
        → Results (IsKind p s) (flat_map (meaning.arm_list p M t m) (para_row (meaning.at_level p M) arms))
    all_row end_of-Strategy s t m e k = tt
    all_row (more_of-Strategy x rest) s t m e k =
        let f : (for_node x s ≡ true) × (list_all (λ a. a.1 s) (para_row (is_valid_layer p Outside) rest) ≡ true) = both _ _ e in
        results_append (IsKind p s) (para_node (meaning.at_level p M) x t m) _ (strategy_node x s t m f.0 k) (all_row rest s t m f.1 k)

    first_row : {j : _} (arms : Row_of-Strategy j) (s : SortId) (t : Term) (m : ℕ) → list_all (λ a. a.1 s) (para_row (is_valid_layer p Outside) arms) ≡ true → IsKind p s t
        → Results (IsKind p s) (first_of (map (meaning.arm_list p M t m) (para_row (meaning.at_level p M) arms)))
    first_row end_of-Strategy s t m e k = tt
    first_row (more_of-Strategy x rest) s t m e k =
        let f : (for_node x s ≡ true) × (list_all (λ a. a.1 s) (para_row (is_valid_layer p Outside) rest) ≡ true) = both _ _ e in
        results_or_else (IsKind p s) (para_node (meaning.at_level p M) x t m) _ (strategy_node x s t m f.0 k) (first_row rest s t m f.1 k)

  strategy : (s : SortId) (by : Strategy) (t : Term) (m : ℕ) → IsFor p s by → IsKind p s t → Results (IsKind p s) (meaning.strategy p M by t m)
  unfolding meaning.strategy is_valid_strategy
  strategy s by t m e k = strategy_node by.node s t m e k

  -- ---- clauses

  rows_if : (P : List Term → Type 0) (b : Bool) (es : List Entry) → Rows P es → Rows P (if b then es else [])
  rows_if P true es h = h
  rows_if P false es h = tt

  if_true : (P : List Term → Type 0) (Q : Term → Type 0) (i : Item) (k : ℕ → List Entry) → Results Q (i ∷ []) → ((m : ℕ) → Rows P (k m)) → Rows P (meaning.if_true p M i k)
  if_true P Q (Mark c) k h f = tt
  if_true P Q (Res t m) k h f = rows_if P (is_true p.signature.truth t) (k m) (f m)

  if_result : (P : List Term → Type 0) (Q : Term → Type 0) (i : Item) (k : Term → ℕ → List Entry) → Results Q (i ∷ []) → ((t : Term) (m : ℕ) → Q t → Rows P (k t m)) → Rows P (meaning.if_result p M i k)
  if_result P Q (Mark c) k h f = tt
  if_result P Q (Res t m) k h f = f t m h.0

  clauses : (cs : List Clause) (bound later : List (ℕ × SortId)) (a : List Term) (m : ℕ) → bound_by p bound cs ≡ Some later → Given p bound a → Rows (Given p later) (meaning.clauses p M cs a m)
  unfolding meaning.clauses meaning.sought meaning.found matched is_valid_if is_valid_where binds
  clauses [] bound later a m e g = (subst (λ b. Given p b a) (list_inside bound later e) g, tt)
  clauses (If t ∷ cs) bound later a m e g =
      let k : (is_valid_if p bound t ≡ true) × (bound_by p bound cs ≡ Some later) = passed (is_valid_if p bound t) bound (λ more. bound_by p more cs) later e in
      let l : (uses bound t ≡ true) × (is_truth (truth_sort p.signature.truth) (pattern_sort shapes t) ≡ true) = both (uses bound t) (is_truth (truth_sort p.signature.truth) (pattern_sort shapes t)) k.0 in
      let w : (s : SortId) × (pattern_sort shapes t ≡ Some s) = truth_well (truth_sort p.signature.truth) (pattern_sort shapes t) l.1 in
      if_true (Given p later) (IsKind p w.0) (meaning.normal p M t a m) (meaning.clauses p M cs a)
      (normal t bound a w.0 m (record { used = l.0; sorted = w.1 }) g) (λ i. clauses cs bound later a i k.1 g)
  clauses (Where left by t ∷ cs) bound later a m e g =
      let k : (is_valid_where p bound left by t ≡ true) × (bound_by p (bound ++ variables left) cs ≡ Some later) = passed (is_valid_where p bound left by t) (bound ++ variables left) (λ more. bound_by p more cs) later e in
      let l : ((uses bound t && binds (length p.signature.sorts) (length bound) left) ≡ true) × (are_joined p (pattern_sort shapes left) (pattern_sort shapes t) by ≡ true)
      = both (uses bound t && binds (length p.signature.sorts) (length bound) left) (are_joined p (pattern_sort shapes left) (pattern_sort shapes t) by) k.0 in
      let u : (uses bound t ≡ true) × (binds (length p.signature.sorts) (length bound) left ≡ true) = both (uses bound t) (binds (length p.signature.sorts) (length bound) left) l.0 in
      let n : (are_numbered (length p.signature.sorts) (length bound) (variables left) ≡ true) × (uses (variables left) left ≡ true) = both (are_numbered (length p.signature.sorts) (length bound) (variables left)) (uses (variables left) left) u.1 in
      let w : (s : SortId) × (pattern_sort shapes t ≡ Some s) × IsFor p s by = joined p (pattern_sort shapes left) (pattern_sort shapes t) by l.1 in
      if_result (Given p later) (IsKind p w.0) (meaning.normal p M t a m) (meaning.sought p M left by (meaning.clauses p M cs) a)
      (normal t bound a w.0 m (record { used = u.0; sorted = w.1 }) g)
      (λ v i q. rows_then (Given p later) (IsKind p w.0) (meaning.strategy p M by v i) (meaning.found p M left (meaning.clauses p M cs) a) (strategy w.0 by v i w.2 q)
      (λ x j r. rows_flat (Given p later) (matches shapes left x) (matched (meaning.clauses p M cs) a j)
      (all_in (λ b. Rows (Given p later) (meaning.clauses p M cs (a ++ b) j)) (matches shapes left x) (λ b c.
      clauses cs (bound ++ variables left) later (a ++ b) j k.1
      (given_append p bound (variables left) a b g n.0 (match_kinds p left w.0 x r b (contains_of_in (matches shapes left x) b c)))))))

  pub one_level : Keeps p (meaning.level p M)
  one_level = record { normal = normal; clauses = clauses; positions = positions; strategy = strategy }
