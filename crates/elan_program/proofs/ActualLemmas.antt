-- Strategies with their actuals: their equations, and that valid ones stay valid.
use Rattle.std.proofs.Common.{◌≡◌, refl, sym, ap, subst, ◌∙◌, ℕ, zero, suc, ◌<◌, Bool, true, false, ◌&&◌, List, [], ◌∷◌, length, map, arith}
use Rattle.std.specs.Prelude.{nat_lt, Option, Some, None, slice_get}
use Rattle.std.specs.List.{list_all}
use Rattle.std.proofs.lemmas.Bool.{ltb-true, eqb-true}
use Rattle.elan_terms.specs.declared.tree.OpId.{OpId}
use Rattle.elan_terms.specs.declared.tree.SortId.{SortId}
use Rattle.elan_program.specs.declared.program.Parts.{Parts}
use Rattle.elan_program.specs.declared.strategy.Scope.TheVariants.{Outside, Inside}
use Rattle.elan_program.specs.declared.strategy.Strategy.{Strategy}
use Rattle.elan_program.specs.declared.strategy.StrategyNode.{StrategyNode, Row_of-Strategy, end_of-Strategy, more_of-Strategy}
use Rattle.elan_program.specs.declared.strategy.StrategyNode.TheVariants as node
use Rattle.elan_program.specs.Soundness.{same_sort, is_some_list}
use Rattle.elan_program.specs.Strategies.{para_node, para_row, seconds, made, replaced, with_actuals, actual_or}
use Rattle.elan_program.specs.Validity.{is_valid_strategy, is_valid_layer, is_named_for, is_valid_param, congruence_fits, each_fits, congruent_sorts}
use Rattle.elan_program.proofs.StrategyLemmas.{para-call, para-cong, para-seq, para-all, para-first, para-repeat, para-iterate, para-iterate_plus, para-normalise}
use Rattle.elan_program.proofs.ValidLemmas.{valid-call, valid-seq, valid-all, valid-first, valid-repeat, valid-iterate, valid-iterate_plus, valid-normalise, valid-cong}

-- ---- equations

own_seconds : {A : Type 0} (f : Strategy → A) (ss : List Strategy) → seconds (map (λ s. (s, f s)) ss) ≡ map f ss
own_seconds f [] = refl
own_seconds f (s ∷ ss) = ap (λ r. f s ∷ r) (own_seconds f ss)

module _ (actuals : List Strategy) (s : Strategy) where
  pub actuals-id : s.node ≡ node.Id → with_actuals actuals s ≡ made node.Id
  unfolding with_actuals
  actuals-id e = ap (λ i. with_actuals actuals (made i)) e

  pub actuals-fail : s.node ≡ node.Fail → with_actuals actuals s ≡ made node.Fail
  unfolding with_actuals
  actuals-fail e = ap (λ i. with_actuals actuals (made i)) e

  pub actuals-label : (rules : List ℕ) → s.node ≡ node.Label rules → with_actuals actuals s ≡ made (node.Label rules)
  unfolding with_actuals
  actuals-label rules e = ap (λ i. with_actuals actuals (made i)) e

  pub actuals-param : (k : ℕ) → s.node ≡ node.Param k → with_actuals actuals s ≡ actual_or k (slice_get actuals k)
  unfolding with_actuals
  actuals-param k e = ap (λ i. with_actuals actuals (made i)) e

  pub actuals-call : (d : ℕ) (ss : List Strategy) → s.node ≡ node.Call d ss
      → with_actuals actuals s ≡ made (node.Call d (map (with_actuals actuals) ss))
  unfolding with_actuals
  actuals-call d ss e =
      ap (λ i. with_actuals actuals (made i)) e ∙ para-call (replaced actuals) d ss
      ∙ ap (λ r. made (node.Call d r)) (own_seconds (with_actuals actuals) ss)

  pub actuals-seq : (ss : List Strategy) → s.node ≡ node.Seq ss → with_actuals actuals s ≡ made (node.Seq (map (with_actuals actuals) ss))
  unfolding with_actuals
  actuals-seq ss e =
      ap (λ i. with_actuals actuals (made i)) e ∙ para-seq (replaced actuals) ss
      ∙ ap (λ r. made (node.Seq r)) (own_seconds (with_actuals actuals) ss)

  pub actuals-all : (ss : List Strategy) → s.node ≡ node.All ss → with_actuals actuals s ≡ made (node.All (map (with_actuals actuals) ss))
  unfolding with_actuals
  actuals-all ss e =
      ap (λ i. with_actuals actuals (made i)) e ∙ para-all (replaced actuals) ss
      ∙ ap (λ r. made (node.All r)) (own_seconds (with_actuals actuals) ss)

  pub actuals-first : (one : Bool) (ss : List Strategy) → s.node ≡ node.First one ss
      → with_actuals actuals s ≡ made (node.First one (map (with_actuals actuals) ss))
  unfolding with_actuals
  actuals-first one ss e =
      ap (λ i. with_actuals actuals (made i)) e ∙ para-first (replaced actuals) one ss
      ∙ ap (λ r. made (node.First one r)) (own_seconds (with_actuals actuals) ss)

  pub actuals-cong : (op : OpId) (ss : List Strategy) → s.node ≡ node.Cong op ss
      → with_actuals actuals s ≡ made (node.Cong op (map (with_actuals actuals) ss))
  unfolding with_actuals
  actuals-cong op ss e =
      ap (λ i. with_actuals actuals (made i)) e ∙ para-cong (replaced actuals) op ss
      ∙ ap (λ r. made (node.Cong op r)) (own_seconds (with_actuals actuals) ss)

  pub actuals-repeat : (inner : Strategy) → s.node ≡ node.Repeat inner → with_actuals actuals s ≡ made (node.Repeat (with_actuals actuals inner))
  unfolding with_actuals
  actuals-repeat inner e = ap (λ i. with_actuals actuals (made i)) e ∙ para-repeat (replaced actuals) inner

  pub actuals-iterate : (inner : Strategy) → s.node ≡ node.Iterate inner
      → with_actuals actuals s ≡ made (node.Iterate (with_actuals actuals inner))
  unfolding with_actuals
  actuals-iterate inner e = ap (λ i. with_actuals actuals (made i)) e ∙ para-iterate (replaced actuals) inner

  pub actuals-iterate_plus : (inner : Strategy) → s.node ≡ node.IteratePlus inner
      → with_actuals actuals s ≡ made (node.IteratePlus (with_actuals actuals inner))
  unfolding with_actuals
  actuals-iterate_plus inner e = ap (λ i. with_actuals actuals (made i)) e ∙ para-iterate_plus (replaced actuals) inner

  pub actuals-normalise : (sort : SortId) (inner : Strategy) → s.node ≡ node.Normalise sort inner
      → with_actuals actuals s ≡ made (node.Normalise sort (with_actuals actuals inner))
  unfolding with_actuals
  actuals-normalise sort inner e = ap (λ i. with_actuals actuals (made i)) e ∙ para-normalise (replaced actuals) sort inner

pub ruleset actual_rules = (
  actuals-id,
  actuals-fail,
  actuals-label,
  actuals-param,
  actuals-call,
  actuals-seq,
  actuals-all,
  actuals-first,
  actuals-cong,
  actuals-repeat,
  actuals-iterate,
  actuals-iterate_plus,
  actuals-normalise,
)

-- ---- validity

halves : (a b : Bool) → (a && b) ≡ true → (a ≡ true) × (b ≡ true)
halves true true e = (refl, refl)
halves true false e = (refl, e)
halves false b e = (e, absurd (differ e))
  where
    differ : false ≡ true → ⊥
    differ f = cc

join : (a b : Bool) → a ≡ true → b ≡ true → (a && b) ≡ true
join a b e f = ap (λ c. c && b) e ∙ f

-- A body that is valid with so many parameters is valid outside, with as many actuals that are.
module _ (p : Parts) (own : SortId) (actuals : List Strategy) (fit : list_all (λ a. is_valid_strategy p Outside a own) actuals ≡ true) where
  -- validity in the body
  abbrev inside : StrategyNode → SortId → Bool
  inside = para_node (is_valid_layer p (Inside (length actuals) own))

  -- validity with the actuals
  abbrev outside : Strategy → SortId → Bool
  outside = is_valid_strategy p Outside

  actual_fits : (ss : List Strategy) (k : ℕ) → list_all (λ a. outside a own) ss ≡ true → k < length ss → outside (actual_or k (slice_get ss k)) own ≡ true
  actual_fits [] k e lt = absurd (omega arith)
  actual_fits (s ∷ ss) zero e lt = (halves (outside s own) (list_all (λ a. outside a own) ss) e).0
  actual_fits (s ∷ ss) (suc k) e lt =
      subst (λ o. outside o own ≡ true) refl (later (slice_get ss k) (actual_fits ss k (halves (outside s own) (list_all (λ a. outside a own) ss) e).1 (omega arith)) (there ss k (omega arith)))
    where
      there : (ss : List Strategy) (k : ℕ) → k < length ss → (s : Strategy) × (slice_get ss k ≡ Some s)
      there [] k lt = absurd (omega arith)
      there (s ∷ ss) zero lt = (s, refl)
      there (s ∷ ss) (suc k) lt = there ss k (omega arith)

      later : (o : Option Strategy) → outside (actual_or k o) own ≡ true → (s : Strategy) × (o ≡ Some s) → outside (actual_or (suc k) o) own ≡ true
      later None h (s, e) = absurd (differ e)
        where
          differ : None ≡ Some s → ⊥
          differ f = cc
      later (Some s) h e = h

  param_fits : (k : ℕ) (sort : SortId) → is_valid_param (Inside (length actuals) own) sort k ≡ true → outside (actual_or k (slice_get actuals k)) sort ≡ true
  param_fits k sort e =
      let h : (nat_lt k (length actuals) ≡ true) × (same_sort own sort ≡ true) = halves (nat_lt k (length actuals)) (same_sort own sort) e in
      subst (λ (i : ℕ). outside (actual_or k (slice_get actuals k)) (record { 0 = i }) ≡ true) (eqb-true own.0 sort.0 h.1)
      (actual_fits actuals k fit (ltb-true k (length actuals) h.0))

  some_left : {n : _} (row : Row_of-Strategy n) → is_some_list (para_row (is_valid_layer p (Inside (length actuals) own)) row) ≡ true
      → is_some_list (seconds (para_row (replaced actuals) row)) ≡ true
  some_left end_of-Strategy e = e
  some_left (more_of-Strategy x rest) e = e

  length_left : {n : _} (row : Row_of-Strategy n)
      → length (para_row (is_valid_layer p (Inside (length actuals) own)) row) ≡ length (seconds (para_row (replaced actuals) row))
  length_left end_of-Strategy = refl
  length_left (more_of-Strategy x rest) = ap (λ n. suc n) (length_left rest)

  fits_left : {n : _} (row : Row_of-Strategy n) (sorts : Option (List SortId))
      → ((given : List SortId) → each_fits (λ s. s.1) (para_row (is_valid_layer p (Inside (length actuals) own)) row) given ≡ true
      → each_fits outside (seconds (para_row (replaced actuals) row)) given ≡ true)
      → congruence_fits (λ s. s.1) (para_row (is_valid_layer p (Inside (length actuals) own)) row) sorts ≡ true
      → congruence_fits outside (seconds (para_row (replaced actuals) row)) sorts ≡ true
  fits_left row None each e = e
  fits_left row (Some sorts) each e =
      let h : (is_some_list (para_row (is_valid_layer p (Inside (length actuals) own)) row) ≡ true)
      × (each_fits (λ s. s.1) (para_row (is_valid_layer p (Inside (length actuals) own)) row) sorts ≡ true) = halves _ _ e in
      join _ _ (some_left row h.0) (each sorts h.1)

  mutual
    unfolding is_valid_strategy

    node_valid : (x : StrategyNode) (sort : SortId) → inside x sort ≡ true → outside (para_node (replaced actuals) x) sort ≡ true
    node_valid node.Id sort e = refl
    node_valid node.Fail sort e = refl
    node_valid (node.Label rules) sort e = e
    node_valid (node.Param k) sort e = param_fits k sort e
    node_valid (node.Call' d shape row) sort e =
        let old : List _ = para_row (is_valid_layer p (Inside (length actuals) own)) row in
        let new : List Strategy = seconds (para_row (replaced actuals) row) in
        let h : (is_named_for sort (length old) (slice_get p.named d) ≡ true) × (list_all (λ s. s.1 sort) old ≡ true) = halves _ _ e in
        valid-call p Outside (made (node.Call d new)) sort d new refl
        ∙ join _ _ (ap (λ n. is_named_for sort n (slice_get p.named d)) (sym (length_left row)) ∙ h.0) (all_left row sort h.1)
    node_valid (node.Seq' shape row) sort e = valid-seq p Outside (made (node.Seq _)) sort (seconds (para_row (replaced actuals) row)) refl ∙ all_left row sort e
    node_valid (node.All' shape row) sort e = valid-all p Outside (made (node.All _)) sort (seconds (para_row (replaced actuals) row)) refl ∙ all_left row sort e
    node_valid (node.First' one shape row) sort e =
        valid-first p Outside (made (node.First one _)) sort one (seconds (para_row (replaced actuals) row)) refl ∙ all_left row sort e
    node_valid (node.Repeat' shape (more_of-Strategy s end_of-Strategy)) sort e =
        valid-repeat p Outside (made (node.Repeat _)) sort (para_node (replaced actuals) s) refl ∙ node_valid s sort e
    node_valid (node.Iterate' shape (more_of-Strategy s end_of-Strategy)) sort e =
        valid-iterate p Outside (made (node.Iterate _)) sort (para_node (replaced actuals) s) refl ∙ node_valid s sort e
    node_valid (node.IteratePlus' shape (more_of-Strategy s end_of-Strategy)) sort e =
        valid-iterate_plus p Outside (made (node.IteratePlus _)) sort (para_node (replaced actuals) s) refl ∙ node_valid s sort e
    node_valid (node.Normalise' place shape (more_of-Strategy s end_of-Strategy)) sort e =
        let h : (same_sort place sort ≡ true) × (inside s sort ≡ true) = halves _ _ e in
        valid-normalise p Outside (made (node.Normalise place _)) sort place (para_node (replaced actuals) s) refl ∙ join _ _ h.0 (node_valid s sort h.1)
    node_valid (node.Cong' op shape row) sort e =
        valid-cong p Outside (made (node.Cong op _)) sort op (seconds (para_row (replaced actuals) row)) refl
        ∙ fits_left row (congruent_sorts (slice_get p.signature.operators op.0)) (λ given. each_left row given) e

    all_left : {n : _} (row : Row_of-Strategy n) (sort : SortId)
        → list_all (λ s. s.1 sort) (para_row (is_valid_layer p (Inside (length actuals) own)) row) ≡ true
        → list_all (λ a. outside a sort) (seconds (para_row (replaced actuals) row)) ≡ true
    all_left end_of-Strategy sort e = refl
    all_left (more_of-Strategy x rest) sort e =
        let h : (inside x sort ≡ true) × (list_all (λ s. s.1 sort) (para_row (is_valid_layer p (Inside (length actuals) own)) rest) ≡ true) = halves _ _ e in
        join _ _ (node_valid x sort h.0) (all_left rest sort h.1)

    each_left : {n : _} (row : Row_of-Strategy n) (sorts : List SortId)
        → each_fits (λ s. s.1) (para_row (is_valid_layer p (Inside (length actuals) own)) row) sorts ≡ true
        → each_fits outside (seconds (para_row (replaced actuals) row)) sorts ≡ true
    each_left end_of-Strategy [] e = refl
    each_left end_of-Strategy (sort ∷ sorts) e = e
    each_left (more_of-Strategy x rest) [] e = e
    each_left (more_of-Strategy x rest) (sort ∷ sorts) e =
        let h : (inside x sort ≡ true) × (each_fits (λ s. s.1) (para_row (is_valid_layer p (Inside (length actuals) own)) rest) sorts ≡ true) = halves _ _ e in
        join _ _ (node_valid x sort h.0) (each_left rest sorts h.1)

  pub actuals_valid : (body : Strategy) (sort : SortId) → is_valid_strategy p (Inside (length actuals) own) body sort ≡ true
      → is_valid_strategy p Outside (with_actuals actuals body) sort ≡ true
  unfolding is_valid_strategy with_actuals
  actuals_valid body sort e = node_valid body.node sort e
