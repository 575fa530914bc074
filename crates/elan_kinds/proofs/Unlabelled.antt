-- The rules that normalising tries are good: the extension rule of a valid rule binds and uses what it has to.
use Rattle.std.proofs.Common.{◌≡◌, refl, sym, ap, ◌∙◌, subst, ⊎_elim, ℕ, suc, ◌+◌, ◌≤◌, ◌<◌, ◌&&◌, ◌||◌, ◌==◌, eqb-true, eq-eqb, nat_lt, Bool, true, false, cond, Option, None, Some, List, [], ◌∷◌, ◌++◌, length, map, arith}
use Rattle.std.specs.Prelude.{slice_get}
use Rattle.std.specs.List.{list_all, list_any}
use Rattle.std.specs.Option.{option_and_then}
use Rattle.std.proofs.Math.Nat.{min-eq_left}
use Rattle.std.proofs.lemmas.List.{length-append}
use Rattle.elan_terms.specs.declared.tree.OpId.{OpId}
use Rattle.elan_terms.specs.declared.tree.SortId.{SortId}
use Rattle.elan_terms.specs.declared.tree.Shape.{Shape}
use Rattle.elan_terms.specs.declared.tree.Shapes.{Shapes}
use Rattle.elan_terms.specs.declared.tree.Pattern.{Pattern}
use Rattle.elan_terms.specs.declared.tree.PatternNode as pattern
use Rattle.elan_terms.specs.Term.{is_ac, shape_ac, shape_sort}
use Rattle.elan_terms.specs.Match.{is_sort, occurrences, variables, new_in}
use Rattle.elan_terms.proofs.MatchLemmas.{occurrences-app, occurrences-var}
use Rattle.elan_text.specs.declared.name.Name.{Name}
use Rattle.elan_program.specs.declared.program.Clause.{Clause}
use Rattle.elan_program.specs.declared.program.Clause.TheVariants.{If, Where}
use Rattle.elan_program.specs.declared.program.Rule.{Rule}
use Rattle.elan_program.specs.declared.program.Program.{Program}
use Rattle.elan_program.specs.Signature.{shapes_of}
use Rattle.elan_program.specs.Soundness.{truth_sort}
use Rattle.elan_program.specs.Patterns.{pattern_sort, sort_over, args_fit, are_all_of, are_of_sorts, uses, is_bound, are_numbered, binds}
use Rattle.elan_program.specs.Validity.{bound_by, is_valid_if, is_valid_where, is_valid_rule, where_true, is_truth, are_joined, IsValid}
use Rattle.elan_program.specs.Extension.{shifted, shifted_clause, last_number, var_pattern, app_pattern, extended_by, extended, extension, fresh, head_op, head_node, if_unlabelled, optional, tried_by, unlabelled}
use Rattle.elan_program.proofs.PatternLemmas.{pattern_sort-app, pattern_sort-var, uses-app, uses-var}
use Rattle.elan_terms.proofs.Lists.{AllOf, all_flat}
use Rattle.elan_laws.proofs.CanonicalLaws.{true_or_false}
use Rattle.elan_kinds.proofs.Keeping.{IsGood}
use Rattle.elan_kinds.proofs.SortFits.{both, and_true, not_some, some_is_sort}
use Rattle.elan_kinds.proofs.Values.{numbered_append}
use Rattle.elan_kinds.proofs.Steps.{passed, list_inside}
use Rattle.elan_kinds.proofs.Checked.{Checked, checked, all_rules, item_inside, no_item}
use Rattle.elan_kinds.proofs.Extending.{sh, moved_below, bound_left, bound_last, bound_either, bound_number, binds_moved, uses_moved, sort_shifted, bound_map, numbered_moved, new_in_append, length_map, or_left}

-- ---- conditions

pass : (b : Bool) (bound : List (ℕ × SortId)) (f : List (ℕ × SortId) → Option (List (ℕ × SortId))) → b ≡ true → option_and_then f (where_true b bound) ≡ f bound
pass b bound f e = ap (λ x. option_and_then f (where_true x bound)) e

-- bound variables, and the same where the number k is left for z
record Moves (sorts k : ℕ) (z : ℕ × SortId) (B B' : List (ℕ × SortId)) : Type 0 where
  numbered' : are_numbered sorts 0 B' ≡ true
  longer : length B' ≡ suc (length B)
  «from» : k ≤ length B
  bounds : (v : ℕ × SortId) → is_bound B v ≡ true → is_bound B' (sh k v) ≡ true
  own : is_bound B' z ≡ true

grows : (p : Program) (cs : List Clause) (B later : List (ℕ × SortId)) → bound_by p B cs ≡ Some later → length B ≤ length later
grows p [] B later e = subst (λ l. length B ≤ length l) (list_inside B later e) (omega arith)
grows p (If t ∷ cs) B later e = grows p cs B later (passed (is_valid_if p B t) B (λ more. bound_by p more cs) later e).1
grows p (Where left by t ∷ cs) B later e =
    let rest : length (B ++ variables left) ≤ length later = grows p cs (B ++ variables left) later (passed (is_valid_where p B left by t) (B ++ variables left) (λ more. bound_by p more cs) later e).1 in
    let sum : length (B ++ variables left) ≡ length B + length (variables left) = length-append B (variables left) in
    omega arith

module _ (p : Program) (k : ℕ) (z : ℕ × SortId) where
  abbrev sorts : ℕ
  sorts = length p.signature.sorts

  abbrev shapes : Shapes
  shapes = shapes_of p.signature

  moves_append : (B B' : List (ℕ × SortId)) (vs : List (ℕ × SortId)) → Moves sorts k z B B' → length B + length vs ≤ last_number → are_numbered sorts (length B) vs ≡ true → Moves sorts k z (B ++ vs) (B' ++ map (sh k) vs)
  moves_append B B' vs m few n =
      let longer : length B' ≡ suc (length B) = m.longer in
      let low : k ≤ length B = m.«from» in
      let sum : length (B ++ vs) ≡ length B + length vs = length-append B vs in
      let sum' : length (B' ++ map (sh k) vs) ≡ length B' + length (map (sh k) vs) = length-append B' (map (sh k) vs) in
      let same_length : length (map (sh k) vs) ≡ length vs = length_map (sh k) vs in
      record {
        numbered' = numbered_append sorts 0 (suc (length B)) B' (map (sh k) vs) (omega arith) m.numbered' (numbered_moved k sorts (length B) vs low few n);
        longer = omega arith;
        «from» = omega arith;
        bounds = λ v b. ⊎_elim (λ l. bound_left B' (map (sh k) vs) (sh k v) (m.bounds v l)) (λ r. bound_last B' (map (sh k) vs) (sh k v) (bound_map k vs v r)) (bound_either B vs v b);
        own = bound_left B' (map (sh k) vs) z m.own;
      }

  abbrev Moved : List Clause → List (ℕ × SortId) → List (ℕ × SortId) → Type 0
  Moved cs B' later = (later' : List (ℕ × SortId)) × (bound_by p B' (map (shifted_clause k) cs) ≡ Some later') × Moves sorts k z later later'

  clauses_moved : (cs : List Clause) (B B' later : List (ℕ × SortId)) → bound_by p B cs ≡ Some later → Moves sorts k z B B' → length later ≤ last_number → Moved cs B' later
  unfolding is_valid_if is_valid_where binds
  clauses_moved [] B B' later e m few = (B', refl, subst (λ l. Moves sorts k z l B') (list_inside B later e) m)
  clauses_moved (If t ∷ cs) B B' later e m few =
      let h : (is_valid_if p B t ≡ true) × (bound_by p B cs ≡ Some later) = passed (is_valid_if p B t) B (λ more. bound_by p more cs) later e in
      let l : (uses B t ≡ true) × (is_truth (truth_sort p.signature.truth) (pattern_sort shapes t) ≡ true) = both (uses B t) (is_truth (truth_sort p.signature.truth) (pattern_sort shapes t)) h.0 in
      let ok : is_valid_if p B' (shifted k t) ≡ true = and_true (uses B' (shifted k t)) (is_truth (truth_sort p.signature.truth) (pattern_sort shapes (shifted k t)))
      (uses_moved k B B' t m.bounds l.0) (ap (λ o. is_truth (truth_sort p.signature.truth) o) (sort_shifted k shapes t) ∙ l.1) in
      let rest : Moved cs B' later = clauses_moved cs B B' later h.1 m few in
      (rest.0, pass (is_valid_if p B' (shifted k t)) B' (λ more. bound_by p more (map (shifted_clause k) cs)) ok ∙ rest.1, rest.2)
  clauses_moved (Where left by t ∷ cs) B B' later e m few =
      let h : (is_valid_where p B left by t ≡ true) × (bound_by p (B ++ variables left) cs ≡ Some later) = passed (is_valid_where p B left by t) (B ++ variables left) (λ more. bound_by p more cs) later e in
      let l : ((uses B t && binds sorts (length B) left) ≡ true) × (are_joined p (pattern_sort shapes left) (pattern_sort shapes t) by ≡ true)
      = both (uses B t && binds sorts (length B) left) (are_joined p (pattern_sort shapes left) (pattern_sort shapes t) by) h.0 in
      let u : (uses B t ≡ true) × (binds sorts (length B) left ≡ true) = both (uses B t) (binds sorts (length B) left) l.0 in
      let n : (are_numbered sorts (length B) (variables left) ≡ true) × (uses (variables left) left ≡ true) = both (are_numbered sorts (length B) (variables left)) (uses (variables left) left) u.1 in
      let grown : length (B ++ variables left) ≤ length later = grows p cs (B ++ variables left) later h.1 in
      let sum : length (B ++ variables left) ≡ length B + length (variables left) = length-append B (variables left) in
      let small : length B + length (variables left) ≤ last_number = omega arith in
      let fresh' : (binds sorts (suc (length B)) (shifted k left) ≡ true) × (variables (shifted k left) ≡ map (sh k) (variables left)) = binds_moved k sorts (length B) left m.«from» small u.1 in
      let ok : is_valid_where p B' (shifted k left) by (shifted k t) ≡ true =
      and_true (uses B' (shifted k t) && binds sorts (length B') (shifted k left)) (are_joined p (pattern_sort shapes (shifted k left)) (pattern_sort shapes (shifted k t)) by)
      (and_true (uses B' (shifted k t)) (binds sorts (length B') (shifted k left)) (uses_moved k B B' t m.bounds u.0) (subst (λ i. binds sorts i (shifted k left) ≡ true) (sym m.longer) fresh'.0))
      (ap (λ o. are_joined p o (pattern_sort shapes (shifted k t)) by) (sort_shifted k shapes left) ∙ ap (λ o. are_joined p (pattern_sort shapes left) o by) (sort_shifted k shapes t) ∙ l.1) in
      let m' : Moves sorts k z (B ++ variables left) (B' ++ variables (shifted k left)) = subst (λ vs. Moves sorts k z (B ++ variables left) (B' ++ vs)) (sym fresh'.1) (moves_append B B' (variables left) m small n.0) in
      let rest : Moved cs (B' ++ variables (shifted k left)) later = clauses_moved cs (B ++ variables left) (B' ++ variables (shifted k left)) later h.1 m' few in
      (rest.0, pass (is_valid_where p B' (shifted k left) by (shifted k t)) (B' ++ variables (shifted k left)) (λ more. bound_by p more (map (shifted_clause k) cs)) ok ∙ rest.1, rest.2)

-- ---- the sides

over_sort : (o : Option Shape) (found : List (Option SortId)) (s : SortId) → sort_over o found ≡ Some s → shape_sort o ≡ Some s
over_sort None found s e = not_some s e
over_sort (Some shape) found s e = by_fit (args_fit shape found) e
  where
    by_fit : (b : Bool) → cond b (Some shape.sort) None ≡ Some s → Some shape.sort ≡ Some s
    by_fit true f = f
    by_fit false f = not_some s f

pair_over : (o : Option Shape) (s : SortId) → shape_ac o ≡ true → shape_sort o ≡ Some s → sort_over o (Some s ∷ Some s ∷ []) ≡ Some s
unfolding args_fit
pair_over None s ac e = not_some s e
pair_over (Some shape) s ac e =
    let own : is_sort (Some s) shape.sort ≡ true = some_is_sort (Some s) shape.sort (sym e) in
    ap (λ b. cond (cond b (are_all_of shape.sort (Some s ∷ Some s ∷ [])) (are_of_sorts shape.args (Some s ∷ Some s ∷ []))) (Some shape.sort) None) ac
    ∙ ap (λ b. cond b (Some shape.sort) None) (and_true (is_sort (Some s) shape.sort) (is_sort (Some s) shape.sort && true) own (and_true (is_sort (Some s) shape.sort) true own refl)) ∙ e

head_node_sort : (all : Shapes) (f : OpId) (s : SortId) (x : pattern.PatternNode) → head_node x ≡ Some f → pattern_sort all (record { node = x }) ≡ Some s → shape_sort (slice_get all.shapes f.0) ≡ Some s
unfolding pattern_sort
head_node_sort all f s (pattern.Var x r) h e = no_item f h
head_node_sort all f s (pattern.Int z) h e = no_item f h
head_node_sort all f s (pattern.App' op shape row) h e = subst (λ (g : OpId). shape_sort (slice_get all.shapes g.0) ≡ Some s) (item_inside op f h) (over_sort (slice_get all.shapes op.0) _ s e)

none_there : (count j n : ℕ) (vs : List (ℕ × SortId)) → j + length vs ≤ n → are_numbered count j vs ≡ true → list_any (λ w. w.0 == n) vs ≡ false
none_there count j n [] le e = refl
none_there count j n (v ∷ vs) le e =
    let h : ((v.0 == j && nat_lt v.1.0 count) ≡ true) × (are_numbered count (suc j) vs ≡ true) = both (v.0 == j && nat_lt v.1.0 count) (are_numbered count (suc j) vs) e in
    let is : v.0 ≡ j = eqb-true v.0 j (both (v.0 == j) (nat_lt v.1.0 count) h.0).0 in
    ⊎_elim
    (λ t. let same_number : v.0 ≡ n = eqb-true v.0 n t in absurd (omega arith))
    (λ f. ap (λ b. b || list_any (λ (w : ℕ × SortId). w.0 == n) vs) f ∙ none_there count (suc j) n vs (omega arith) h.1)
    (true_or_false (v.0 == n))

all_weaker : (B B' : List (ℕ × SortId)) → ((v : ℕ × SortId) → is_bound B v ≡ true → is_bound B' v ≡ true) → (vs : List (ℕ × SortId)) → list_all (is_bound B) vs ≡ true → list_all (is_bound B') vs ≡ true
all_weaker B B' f [] e = refl
all_weaker B B' f (v ∷ vs) e = let h : (is_bound B v ≡ true) × (list_all (is_bound B) vs ≡ true) = both (is_bound B v) (list_all (is_bound B) vs) e in
    and_true (is_bound B' v) (list_all (is_bound B') vs) (f v h.0) (all_weaker B B' f vs h.1)

uses_weaker : (B B' : List (ℕ × SortId)) (q : Pattern) → ((v : ℕ × SortId) → is_bound B v ≡ true → is_bound B' v ≡ true) → uses B q ≡ true → uses B' q ≡ true
unfolding uses
uses_weaker B B' q f u = all_weaker B B' f (occurrences q) u

-- ---- the extension rule

module _ (p : Program) (r : Rule) (f : OpId) (c : Checked p r) (head : head_op r.left ≡ Some f) (ac : is_ac (shapes_of p.signature) f ≡ true) where
  abbrev count : ℕ
  count = length p.signature.sorts

  abbrev all_shapes : Shapes
  all_shapes = shapes_of p.signature

  -- the variables of the left side
  abbrev vs : List (ℕ × SortId)
  vs = variables r.left

  -- the variable for what is left over
  abbrev free : ℕ × SortId
  free = (length vs, r.sort)

  -- the same as a pattern
  abbrev free_pattern : Pattern
  free_pattern = var_pattern (length vs) r.sort

  abbrev new_left : Pattern
  new_left = app_pattern f (r.left ∷ free_pattern ∷ [])

  few : length c.good.later ≤ last_number
  few = let h : length c.good.later < 4294967296 = c.few in omega arith

  parted : (are_numbered count 0 vs ≡ true) × (uses vs r.left ≡ true)
  unfolding binds
  parted = both (are_numbered count 0 vs) (uses vs r.left) c.good.fresh

  left_occurrences : occurrences new_left ≡ occurrences r.left ++ free ∷ []
  left_occurrences = occurrences-app new_left f (r.left ∷ free_pattern ∷ []) refl ∙ ap (λ o. occurrences r.left ++ (o ++ [])) (occurrences-var free_pattern (length vs) r.sort refl)

  left_variables : variables new_left ≡ vs ++ free ∷ []
  unfolding variables
  left_variables = ap (new_in []) left_occurrences ∙ new_in_append [] (occurrences r.left) (free ∷ []) ∙ ap (λ b. cond b vs (vs ++ free ∷ [])) (none_there count 0 (length vs) vs (omega arith) parted.0)

  own_bound : is_bound (vs ++ free ∷ []) free ≡ true
  own_bound = bound_last vs (free ∷ []) free
      (or_left (length vs == length vs && r.sort.0 == r.sort.0) false (and_true (length vs == length vs) (r.sort.0 == r.sort.0) (eq-eqb (length vs) (length vs) refl) (eq-eqb r.sort.0 r.sort.0 refl)))

  new_numbered : are_numbered count 0 (vs ++ free ∷ []) ≡ true
  new_numbered = numbered_append count 0 (length vs) vs (free ∷ []) (omega arith) parted.0
      (and_true (length vs == length vs && nat_lt r.sort.0 count) true (and_true (length vs == length vs) (nat_lt r.sort.0 count) (eq-eqb (length vs) (length vs) refl) c.there) refl)

  start : Moves count (length vs) free vs (vs ++ free ∷ [])
  start = record {
    numbered' = new_numbered;
    longer = let e : length (vs ++ free ∷ []) ≡ length vs + 1 = length-append vs (free ∷ []) in omega arith;
    «from» = omega arith;
    bounds = λ v b. let low : v.0 < 0 + length vs = bound_number count 0 vs v parted.0 b in
        subst (λ (i : ℕ). is_bound (vs ++ free ∷ []) (i, v.1) ≡ true) (sym (moved_below (length vs) v.0 (omega arith))) (bound_left vs (free ∷ []) v b);
    own = own_bound;
  }

  moved_clauses : Moved p (length vs) free r.clauses (vs ++ free ∷ []) c.good.later
  moved_clauses = clauses_moved p (length vs) free r.clauses vs (vs ++ free ∷ []) c.good.later c.good.bound start few

  uses_pair : (B : List (ℕ × SortId)) (q : Pattern) → uses B q ≡ true → is_bound B free ≡ true → uses B (app_pattern f (q ∷ free_pattern ∷ [])) ≡ true
  uses_pair B q u b = uses-app B (app_pattern f (q ∷ free_pattern ∷ [])) f (q ∷ free_pattern ∷ []) refl
      ∙ and_true (uses B q) (uses B free_pattern && true) u (and_true (uses B free_pattern) true (uses-var B free_pattern (length vs) r.sort refl ∙ b) refl)

  head_own : shape_sort (slice_get all_shapes.shapes f.0) ≡ Some r.sort
  head_own = head_node_sort all_shapes f r.sort r.left.node head c.good.left

  sort_pair : (q : Pattern) → pattern_sort all_shapes q ≡ Some r.sort → pattern_sort all_shapes (app_pattern f (q ∷ free_pattern ∷ [])) ≡ Some r.sort
  unfolding is_ac
  sort_pair q e = pattern_sort-app all_shapes (app_pattern f (q ∷ free_pattern ∷ [])) f (q ∷ free_pattern ∷ []) refl
      ∙ ap (λ o. sort_over (slice_get all_shapes.shapes f.0) (o ∷ pattern_sort all_shapes free_pattern ∷ [])) e
      ∙ ap (λ o. sort_over (slice_get all_shapes.shapes f.0) (Some r.sort ∷ o ∷ [])) (pattern_sort-var all_shapes free_pattern (length vs) r.sort refl)
      ∙ pair_over (slice_get all_shapes.shapes f.0) r.sort ac head_own

  new_fresh : binds count 0 new_left ≡ true
  unfolding binds
  new_fresh = subst (λ b. (are_numbered count 0 b && uses b new_left) ≡ true) (sym left_variables)
      (and_true (are_numbered count 0 (vs ++ free ∷ [])) (uses (vs ++ free ∷ []) new_left) new_numbered (uses_pair (vs ++ free ∷ []) r.left (uses_weaker vs (vs ++ free ∷ []) r.left (λ v b. bound_left vs (free ∷ []) v b) parted.1) own_bound))

  extended_good : IsGood p (extended_by f (length vs) r)
  unfolding extended_by
  extended_good = record {
    fresh = new_fresh;
    left = sort_pair r.left c.good.left;
    later = moved_clauses.0;
    bound = subst (λ b. bound_by p b (map (shifted_clause (length vs)) r.clauses) ≡ Some moved_clauses.0) (sym left_variables) moved_clauses.1;
    right = record {
      used = uses_pair moved_clauses.0 (shifted (length vs) r.right) (uses_moved (length vs) c.good.later moved_clauses.0 r.right moved_clauses.2.bounds c.good.right.used) moved_clauses.2.own;
      sorted = sort_pair (shifted (length vs) r.right) (sort_shifted (length vs) all_shapes r.right ∙ c.good.right.sorted);
    };
  }

  fresh-is : fresh r.left ≡ length vs
  unfolding fresh
  fresh-is =
      let more : length vs ≤ length c.good.later = grows p r.clauses vs c.good.later c.good.bound in
      let small : length c.good.later ≤ last_number = few in
      min-eq_left {n = length vs} {m = last_number} (omega arith)

  pub extension_good : IsGood p (extended_by f (fresh r.left) r)
  extension_good = subst (λ k. IsGood p (extended_by f k r)) (sym fresh-is) extended_good

-- ---- the rules that are tried

module _ (p : Program) where
  by_ac : (r : Rule) (f : OpId) (b : Bool) → (b ≡ true → IsGood p (extended_by f (fresh r.left) r)) → AllOf (IsGood p) (optional (cond b (Some (extended_by f (fresh r.left) r)) None))
  by_ac r f true h = (h refl, tt)
  by_ac r f false h = tt

  by_head : (r : Rule) (o : Option OpId) → Checked p r → head_op r.left ≡ o → AllOf (IsGood p) (optional (extended p.signature r (fresh r.left) o))
  by_head r None c e = tt
  by_head r (Some f) c e = by_ac r f (is_ac (shapes_of p.signature) f) (λ ac. extension_good p r f c e ac)

  by_label : (r : Rule) (l : Option Name) → Checked p r → AllOf (IsGood p) (if_unlabelled l (r ∷ optional (if_unlabelled l (extended p.signature r (fresh r.left) (head_op r.left)) None)) [])
  by_label r None c = (c.good, by_head r (head_op r.left) c refl)
  by_label r (Some name) c = tt

  tried_good : (r : Rule) → is_valid_rule p r ≡ true → AllOf (IsGood p) (tried_by p.signature r)
  unfolding tried_by extension
  tried_good r e = by_label r r.label (checked p r e)

  each_tried : (rs : List Rule) → list_all (is_valid_rule p) rs ≡ true → AllOf (λ r. AllOf (IsGood p) (tried_by p.signature r)) rs
  each_tried [] e = tt
  each_tried (r ∷ rs) e = let h : (is_valid_rule p r ≡ true) × (list_all (is_valid_rule p) rs ≡ true) = both (is_valid_rule p r) (list_all (is_valid_rule p) rs) e in (tried_good r h.0, each_tried rs h.1)

  pub unlabelled_good : IsValid p → AllOf (IsGood p) (unlabelled p)
  unfolding unlabelled
  unlabelled_good v = all_flat (IsGood p) (tried_by p.signature) p.rules (each_tried p.rules (all_rules p v))
