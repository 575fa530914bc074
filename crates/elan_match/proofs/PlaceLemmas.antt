-- What stands in the places of the variables makes the pattern the term, and is part of it.
use Rattle.std.proofs.Common.{◌≡◌, refl, sym, ap, ◌∙◌, subst, inl, inr, ℕ, ◌+◌, ℤ, Bool, true, false, cond, ◌==◌, eqb-true, eq-eqb, Option, Some, None, List, [], ◌∷◌, ◌++◌, map, length, length-append, flat_map, arith}
use Rattle.std.specs.List.{AllZip}
use Rattle.std.specs.Ordering.{int_eq}
use Rattle.std.proofs.lemmas.Bool.Decides.{Decides-int_eq}
use Rattle.std.proofs.lemmas.List.{map-append}
use Rattle.std.proofs.lemmas.Option.{none-some, same_Some}
use Rattle.elan_terms.specs.declared.tree.SortId.{SortId}
use Rattle.elan_terms.specs.declared.tree.Term.{Term}
use Rattle.elan_terms.specs.declared.tree.Pattern.{Pattern}
use Rattle.elan_terms.specs.declared.tree.PatternNode as pattern
use Rattle.elan_terms.specs.declared.tree.Shapes.{Shapes}
use Rattle.elan_terms.specs.Trees.{int_term, app_term, fold_pattern_row}
use Rattle.elan_terms.specs.Match.{occurrences}
use Rattle.elan_terms.proofs.TreeLemmas.{case_term-app}
use Rattle.elan_laws.specs.Parts.{IsPart, whole, inside}
use Rattle.elan_laws.specs.Matching.{filled}
use Rattle.elan_terms.proofs.Lists.{AllOf, In, contains_of_in, all_append, all_map}
use Rattle.elan_terms.proofs.Induction.{cases_term}
use Rattle.elan_match.specs.Places.{both, side_by_side, at_variable, at_integer, at_operator, placed}

-- ---- lists beside one another

-- each of these places has the term beside it as its value
abbrev pub Agree : (ℕ → Term) → List (ℕ × SortId) → List Term → Type 0
Agree value = AllZip (λ v u. value v.0 ≡ u)

agree_first : (value : ℕ → Term) (vs ws : List (ℕ × SortId)) (us ts : List Term) → length vs ≡ length us
    → Agree value (vs ++ ws) (us ++ ts) → Agree value vs us
agree_first value [] ws [] ts e h = tt
agree_first value [] ws (u ∷ us) ts e h = absurd (omega arith)
agree_first value (v ∷ vs) ws [] ts e h = absurd (omega arith)
agree_first value (v ∷ vs) ws (u ∷ us) ts e h = (h.0, agree_first value vs ws us ts (omega arith) h.1)

agree_later : (value : ℕ → Term) (vs ws : List (ℕ × SortId)) (us ts : List Term) → length vs ≡ length us
    → Agree value (vs ++ ws) (us ++ ts) → Agree value ws ts
agree_later value [] ws [] ts e h = h
agree_later value [] ws (u ∷ us) ts e h = absurd (omega arith)
agree_later value (v ∷ vs) ws [] ts e h = absurd (omega arith)
agree_later value (v ∷ vs) ws (u ∷ us) ts e h = agree_later value vs ws us ts (omega arith) h.1

pub agree_itself : (value : ℕ → Term) (vs : List (ℕ × SortId)) → Agree value vs (map (λ (v : ℕ × SortId). value v.0) vs)
agree_itself value [] = tt
agree_itself value (v ∷ vs) = (refl, agree_itself value vs)

-- ---- what is found

-- two lists that make one
record Parted (us vs : Option (List Term)) (all : List Term) : Type 0 where
  first : List Term
  later : List Term
  is_first : us ≡ Some first
  is_later : vs ≡ Some later
  makes : first ++ later ≡ all

parted : (us vs : Option (List Term)) (all : List Term) → both us vs ≡ Some all → Parted us vs all
parted None vs all e = absurd (none-some all e)
parted (Some us) None all e = absurd (none-some all e)
parted (Some us) (Some vs) all e
    = record { first = us; later = vs; is_first = refl; is_later = refl; makes = same_Some (us ++ vs) all e }

at_test : {A : Type 0} (b : Bool) (o : Option A) (x : A) → cond b o None ≡ Some x → (b ≡ true) × (o ≡ Some x)
at_test true o x e = (refl, e)
at_test false o x e = absurd (none-some x e)

-- what is known of the terms in a pattern's places
pub record Placed (shapes : Shapes) (p : Pattern) (t : Term) (us : List Term) : Type 0 where
  pub many : length (occurrences p) ≡ length us
  pub is_whole : (value : ℕ → Term) → Agree value (occurrences p) us → filled value p ≡ t
  pub are_parts : AllOf (λ u. IsPart shapes u t) us

-- the same for arguments
record Row (shapes : Shapes) (vs : List (ℕ × SortId)) (fill : (ℕ → Term) → List Term) (ts us : List Term) : Type 0 where
  many : length vs ≡ length us
  are_whole : (value : ℕ → Term) → Agree value vs us → fill value ≡ ts
  are_parts : AllOf (λ u. (t : Term) × In t ts × IsPart shapes u t) us

module _ (shapes : Shapes) where
  int_placed : (z : ℤ) (t : Term) (us : List Term) → at_integer z t ≡ Some us → Placed shapes (record { node = pattern.Int z }) t us
  unfolding occurrences filled
  int_placed z t us = cases_term (λ u. at_integer z u ≡ Some us → Placed shapes (record { node = pattern.Int z }) u us)
      (λ y e. let k : (int_eq z y ≡ true) × (Some [] ≡ Some us) = at_test (int_eq z y) (Some []) us e in
      subst (Placed shapes (record { node = pattern.Int z }) (int_term y)) (same_Some [] us k.1)
      (record { many = refl; is_whole = λ value h. ap int_term ((Decides-int_eq z y).0 k.0); are_parts = tt }))
      (λ f ts e. absurd (none-some us e))
      t

  -- an argument and those after it
  joined : (p : Pattern) (vs : List (ℕ × SortId)) (fill : (ℕ → Term) → List Term) (t : Term) (ts us ws : List Term)
      → Placed shapes p t us → Row shapes vs fill ts ws
      → Row shapes (occurrences p ++ vs) (λ value. filled value p ∷ fill value) (t ∷ ts) (us ++ ws)
  joined p vs fill t ts us ws h r =
      let a : length (occurrences p ++ vs) ≡ length (occurrences p) + length vs = length-append (occurrences p) vs in
      let b : length (us ++ ws) ≡ length us + length ws = length-append us ws in
      let c : length (occurrences p) ≡ length us = h.many in
      let d : length vs ≡ length ws = r.many in
      record {
        many = omega arith;
        are_whole
            = λ value k. ap (λ v. v ∷ fill value) (h.is_whole value (agree_first value (occurrences p) vs us ws h.many k))
            ∙ ap (λ vs. t ∷ vs) (r.are_whole value (agree_later value (occurrences p) vs us ws h.many k));
        are_parts = all_append (λ u. (v : Term) × In v (t ∷ ts) × IsPart shapes u v) us ws
            (all_map (λ u. IsPart shapes u t) (λ u. (v : Term) × In v (t ∷ ts) × IsPart shapes u v) (λ u q. (t, inl refl, q)) us h.are_parts)
            (all_map (λ u. (v : Term) × In v ts × IsPart shapes u v) (λ u. (v : Term) × In v (t ∷ ts) × IsPart shapes u v) (λ u q. (q.0, inr q.1, q.2)) ws r.are_parts);
      }

  mutual
    unfolding placed occurrences filled

    node_placed : (n : pattern.PatternNode) (t : Term) (us : List Term) → placed (record { node = n }) t ≡ Some us → Placed shapes (record { node = n }) t us
    node_placed (pattern.Var x s) t us e =
        subst (Placed shapes (record { node = pattern.Var x s }) t) (same_Some (t ∷ []) us e) (record { many = refl; is_whole = λ value h. h.0; are_parts = (whole refl, tt) })
    node_placed (pattern.Int z) t us e = int_placed z t us e
    node_placed (pattern.App' op shape row) t us e
        = cases_term (λ u. placed (record { node = pattern.App' op shape row }) u ≡ Some us → Placed shapes (record { node = pattern.App' op shape row }) u us)
        (λ y e. absurd (none-some us e))
        (λ f ts e.
        let finds : List (Term → Option (List Term)) = fold_pattern_row at_variable at_integer at_operator row in
        let k : ((op.0 == f.0) ≡ true) × (side_by_side finds ts ≡ Some us)
        = at_test (op.0 == f.0) (side_by_side finds ts) us (sym (case_term-app (λ _. None) (λ g vs. cond (op.0 == g.0) (side_by_side finds vs) None) f ts) ∙ e) in
        let r : Row shapes (flat_map (λ vs. vs) (fold_pattern_row (λ x s. (x, s) ∷ []) (λ _. []) (λ _ vss. flat_map (λ vs. vs) vss) row)) (λ value. fold_pattern_row (λ x _. value x) int_term app_term row) ts us
        = row_placed row ts us k.1 in
        record {
          many = r.many;
          is_whole = λ value h. ap (app_term op) (r.are_whole value h)
              ∙ ap (λ (i : ℕ). app_term (record { 0 = i }) ts) (eqb-true op.0 f.0 k.0);
          are_parts
              = all_map (λ u. (v : Term) × In v ts × IsPart shapes u v) (λ u. IsPart shapes u (app_term f ts)) (λ u w. inside f ts w.0 (contains_of_in ts w.0 w.1) w.2) us r.are_parts;
        })
        t e

    row_placed : {n : _} (row : pattern.Row_of-Pattern n) (ts us : List Term)
        → side_by_side (fold_pattern_row at_variable at_integer at_operator row) ts ≡ Some us
        → Row shapes (flat_map (λ vs. vs) (fold_pattern_row (λ x s. (x, s) ∷ []) (λ _. []) (λ _ vss. flat_map (λ vs. vs) vss) row)) (λ value. fold_pattern_row (λ x _. value x) int_term app_term row) ts us
    row_placed pattern.end_of-Pattern [] us e
        = subst (Row shapes [] (λ value. []) []) (same_Some [] us e) (record { many = refl; are_whole = λ value h. refl; are_parts = tt })
    row_placed pattern.end_of-Pattern (t ∷ ts) us e = absurd (none-some us e)
    row_placed (pattern.more_of-Pattern x rest) [] us e = absurd (none-some us e)
    row_placed (pattern.more_of-Pattern x rest) (t ∷ ts) us e =
        let k : Parted (placed (record { node = x }) t) (side_by_side (fold_pattern_row at_variable at_integer at_operator rest) ts) us
        = parted _ _ us e in
        subst (Row shapes _ _ (t ∷ ts)) k.makes (joined (record { node = x }) _ _ t ts k.first k.later (node_placed x t k.first k.is_first) (row_placed rest ts k.later k.is_later))

  pub placed-is : (p : Pattern) (t : Term) (us : List Term) → placed p t ≡ Some us → Placed shapes p t us
  placed-is p t us e = node_placed p.node t us e

-- ---- the pattern filled with values

module _ (value : ℕ → Term) where
  mutual
    unfolding placed occurrences filled

    node_filled : (n : pattern.PatternNode) → placed (record { node = n }) (filled value (record { node = n })) ≡ Some (map (λ (v : ℕ × SortId). value v.0) (occurrences (record { node = n })))
    node_filled (pattern.Var x s) = refl
    node_filled (pattern.Int z) = ap (λ b. cond b (Some []) None) ((Decides-int_eq z z).1 refl)
    node_filled (pattern.App' op shape row) =
        let finds : List (Term → Option (List Term)) = fold_pattern_row at_variable at_integer at_operator row in
        let ts : List Term = fold_pattern_row (λ x _. value x) int_term app_term row in
        case_term-app (λ _. None) (λ g vs. cond (op.0 == g.0) (side_by_side finds vs) None) op ts
        ∙ ap (λ b. cond b (side_by_side finds ts) None) (eq-eqb op.0 op.0 refl)
        ∙ row_filled row

    row_filled : {n : _} (row : pattern.Row_of-Pattern n)
        → side_by_side (fold_pattern_row at_variable at_integer at_operator row) (fold_pattern_row (λ x _. value x) int_term app_term row)
        ≡ Some (map (λ (v : ℕ × SortId). value v.0) (flat_map (λ vs. vs) (fold_pattern_row (λ x s. (x, s) ∷ []) (λ _. []) (λ _ vss. flat_map (λ vs. vs) vss) row)))
    row_filled pattern.end_of-Pattern = refl
    row_filled (pattern.more_of-Pattern x rest) =
        ap (λ us. both us (side_by_side (fold_pattern_row at_variable at_integer at_operator rest) (fold_pattern_row (λ y _. value y) int_term app_term rest))) (node_filled x)
        ∙ ap (both (Some (map (λ (v : ℕ × SortId). value v.0) (occurrences (record { node = x }))))) (row_filled rest)
        ∙ ap Some (sym (map-append (λ (v : ℕ × SortId). value v.0) (occurrences (record { node = x })) (flat_map (λ vs. vs) (fold_pattern_row (λ x s. (x, s) ∷ []) (λ _. []) (λ _ vss. flat_map (λ vs. vs) vss) rest))))

  pub filled-placed : (p : Pattern)
      → placed p (filled value p) ≡ Some (map (λ (v : ℕ × SortId). value v.0) (occurrences p))
  filled-placed p = node_filled p.node
