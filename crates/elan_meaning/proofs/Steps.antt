-- With more steps left a meaning goes on as it did.
use Rattle.std.proofs.Common.{◌≡◌, refl, ap, subst, ℕ, zero, suc, ◌+◌, ◌<◌, ◌≤◌, Option, None, Some, List, [], ◌∷◌, ◌++◌, map, arith}
use Rattle.std.specs.Prelude.{nat_lt, ◌==◌, slice_get}
use Rattle.std.specs.List.{flat_map}
use Rattle.elan_terms.specs.declared.tree.OpId.{OpId}
use Rattle.elan_terms.specs.declared.tree.SortId.{SortId}
use Rattle.elan_terms.specs.declared.tree.Term.{Term}
use Rattle.elan_terms.specs.declared.tree.TermNode as term
use Rattle.elan_terms.specs.declared.tree.Pattern.{Pattern}
use Rattle.elan_terms.specs.declared.tree.PatternNode as pattern
use Rattle.elan_terms.specs.Trees.{fold_row, fold_pattern_row, case_node, int_term, app_term}
use Rattle.elan_terms.specs.Term.{depth, node, sort_of}
use Rattle.elan_terms.specs.Match.{matches, is_sort}
use Rattle.elan_program.specs.declared.strategy.Strategy.{Strategy}
use Rattle.elan_program.specs.declared.strategy.StrategyNode.{StrategyNode, Row_of-Strategy, end_of-Strategy, more_of-Strategy}
use Rattle.elan_program.specs.declared.strategy.StrategyNode.TheVariants as made
use Rattle.elan_program.specs.declared.program.Clause.{Clause}
use Rattle.elan_program.specs.declared.program.Clause.TheVariants.{If, Where}
use Rattle.elan_program.specs.declared.program.Rule.{Rule}
use Rattle.elan_program.specs.declared.program.Named.{Named}
use Rattle.elan_program.specs.declared.program.Program.{Program}
use Rattle.elan_program.specs.Signature.{shapes_of}
use Rattle.elan_program.specs.Strategies.{Layer, para_node, para_row, firsts, seconds, with_actuals}
use Rattle.elan_program.specs.Extension.{unlabelled}
use Rattle.elan_program.specs.Builtins.{reduced, is_true}
use Rattle.elan_meaning.specs.declared.item.Item.{Item}
use Rattle.elan_meaning.specs.declared.item.Entry.{Entry}
use Rattle.elan_meaning.specs.declared.item.Item.TheVariants.{Res}
use Rattle.elan_meaning.specs.Items.{first_of, chosen, then_after, then_before, matched, in_turn, rows, paired, sequence}
use Rattle.elan_meaning.specs.Meaning as meaning
use Rattle.elan_meaning.specs.Meaning.{Meaning, max_depth, pattern_of, value_of, below}
use Rattle.elan_meaning.specs.Laws.{Goes, none, result, deep, out, on, GoesRows, no_row, row, deep_row, out_row, on_row, Follows}
use Rattle.elan_meaning.proofs.GoesLemmas.{goes-more, rows-more, goes-append, goes-results, goes-rows_of, goes-items_of, rows-before, goes-or_else, goes-head, goes-first_or, goes-if, goes-if_one, rows-if, goes-flat_map, rows-flat_map, goes-one_of, goes-row_of, rows-after}

module _ (p : Program) (k n : ℕ) (M M' : Meaning) (follows : Follows k n M M') where
  -- ---- rules

  taken_up : (r : Rule) (a : List Term) (m m' : ℕ) → m < suc n → m' ≡ m + k → Goes k m (meaning.taken_up p M r m a) (meaning.taken_up p M' r m' a)
  taken_up r a zero zero lt e = out none
  taken_up r a zero (suc m') lt e = on (omega arith)
  taken_up r a (suc m) zero lt e = absurd (omega arith)
  taken_up r a (suc m) (suc m') lt e =
      let below : m < n = omega arith in let raised : m' ≡ m + k = omega arith in
      goes-more (omega arith) (goes-items_of (follows.clauses r.clauses a m m' below raised)
      (λ b i i' le is. let low : i < n = omega arith in follows.normal r.right b i i' low is))

  pub apply : (r : Rule) (t : Term) (m m' : ℕ) → m < suc n → m' ≡ m + k → Goes k m (meaning.apply p M r t m) (meaning.apply p M' r t m')
  unfolding meaning.apply
  apply r t m m' lt e = goes-flat_map (matches (shapes_of p.signature) r.left t) (λ a. taken_up r a m m' lt e)

  tried : (rs : List Rule) (t : Term) (m m' : ℕ) → m < suc n → m' ≡ m + k → Goes k m (meaning.tried p M rs t m) (meaning.tried p M' rs t m')
  tried [] t m m' lt e = none
  tried (r ∷ rs) t m m' lt e = goes-or_else (apply r t m m' lt e) (tried rs t m m' lt e)

  -- ---- normalising

  one_result : (t : Term) (m m' : ℕ) → m' ≡ m + k → Goes k m (Res t m ∷ []) (Res t m' ∷ [])
  one_result t m m' e = result (omega arith) e none

  pub of_node : (u : Term) (m m' : ℕ) → m < suc n → m' ≡ m + k → Goes k m (meaning.of_node p M u m ∷ []) (meaning.of_node p M' u m' ∷ [])
  unfolding meaning.of_node
  of_node u m m' lt e =
      goes-if_one (nat_lt max_depth (depth u)) (deep none)
      (goes-first_or (tried (unlabelled p) (reduced p.signature u) m m' lt e) (one_result (reduced p.signature u) m m' e))

  mutual
    unfolding meaning.normal meaning.of_args then_after

    normal_node : (x : pattern.PatternNode) (a : List Term) (m m' : ℕ) → m < suc n → m' ≡ m + k → Goes k m (meaning.normal p M (record { node = x }) a m ∷ []) (meaning.normal p M' (record { node = x }) a m' ∷ [])
    normal_node (pattern.Var x sort) a m m' lt e = one_result (value_of a x) m m' e
    normal_node (pattern.Int z) a m m' lt e = of_node (int_term z) m m' lt e
    normal_node (pattern.App' op shape args) a m m' lt e =
        goes-one_of (normal_row args a m m' lt e) (λ us i i' le is. of_node (node (shapes_of p.signature) op us) i i' (omega arith) is)

    normal_row : {j : _} (args : pattern.Row_of-Pattern j) (a : List Term) (m m' : ℕ) → m < suc n → m' ≡ m + k → GoesRows k m (in_turn (fold_pattern_row (meaning.of_var p M) (meaning.of_int p M) (meaning.of_app p M) args) a m ∷ []) (in_turn (fold_pattern_row (meaning.of_var p M') (meaning.of_int p M') (meaning.of_app p M') args) a m' ∷ [])
    normal_row pattern.end_of-Pattern a m m' lt e = row (omega arith) e no_row
    normal_row (pattern.more_of-Pattern x rest) a m m' lt e =
        goes-row_of (normal_node x a m m' lt e) (λ u i i' le is. rows-after u (normal_row rest a i i' (omega arith) is))

  normal : (q : Pattern) (a : List Term) (m m' : ℕ) → m < suc n → m' ≡ m + k → Goes k m (meaning.normal p M q a m ∷ []) (meaning.normal p M' q a m' ∷ [])
  normal q a m m' lt e = normal_node q.node a m m' lt e

  -- ---- positions

  again_or : (sort : SortId) (s : Strategy) (u : Term) (m m' : ℕ) {is js : List Item} → m < n → m' ≡ m + k → Goes k m is js
      → Goes k m (meaning.again_or p M sort s u m is) (meaning.again_or p M' sort s u m' js)
  again_or sort s u m m' lt e none = one_result u m m' e
  again_or sort s u m m' lt e (result le is g) = goes-results (result le is g) (λ t i i' le' is'. follows.positions sort s t i i' (omega arith) is')
  again_or sort s u m m' lt e (deep g) = goes-results (deep g) (λ t i i' le' is'. follows.positions sort s t i i' (omega arith) is')
  again_or sort s u m m' lt e (out g) = goes-results (out g) (λ t i i' le' is'. follows.positions sort s t i i' (omega arith) is')
  again_or sort s u m m' lt e (on some) = on some

  at_node : (sort : SortId) (s : Strategy) (u : Term) (m m' : ℕ) → m < suc n → m' ≡ m + k → Goes k m (meaning.at_node p M sort s u m) (meaning.at_node p M' sort s u m')
  at_node sort s u zero zero lt e = out none
  at_node sort s u zero (suc m') lt e = on (omega arith)
  at_node sort s u (suc m) zero lt e = absurd (omega arith)
  at_node sort s u (suc m) (suc m') lt e =
      let below : m < n = omega arith in let raised : m' ≡ m + k = omega arith in
      goes-more (omega arith) (again_or sort s u m m' below raised (follows.strategy s u m m' below raised))

  pub placed : (sort : SortId) (s : Strategy) (u : Term) (m m' : ℕ) → m < suc n → m' ≡ m + k → Goes k m (meaning.placed p M sort s u m) (meaning.placed p M' sort s u m')
  unfolding meaning.placed
  placed sort s u m m' lt e =
      goes-if (nat_lt max_depth (depth u)) (deep none)
      (goes-if (is_sort (sort_of (shapes_of p.signature) u) sort) (at_node sort s u m m' lt e) (one_result u m m' e))

  mutual
    unfolding meaning.positions meaning.placed_node then_before

    positions_node : (x : term.TermNode) (sort : SortId) (s : Strategy) (m m' : ℕ) → m < suc n → m' ≡ m + k
        → Goes k m (meaning.positions p M sort s (record { node = x }) m) (meaning.positions p M' sort s (record { node = x }) m')
    positions_node (term.Int z) sort s m m' lt e = placed sort s (int_term z) m m' lt e
    positions_node (term.App' op shape args) sort s m m' lt e =
        goes-items_of (positions_row args sort s m m' lt e) (λ us i i' le is. placed sort s (node (shapes_of p.signature) op us) i i' (omega arith) is)

    positions_row : {j : _} (args : term.Row_of-Term j) (sort : SortId) (s : Strategy) (m m' : ℕ) → m < suc n → m' ≡ m + k
        → GoesRows k m (rows (fold_row (meaning.at_int p M sort s) (meaning.at_app p M sort s) args) m)
        (rows (fold_row (meaning.at_int p M' sort s) (meaning.at_app p M' sort s) args) m')
    positions_row term.end_of-Term sort s m m' lt e = row (omega arith) e no_row
    positions_row (term.more_of-Term x rest) sort s m m' lt e =
        goes-rows_of (positions_node x sort s m m' lt e) (λ u i i' le is. rows-before u (positions_row rest sort s i i' (omega arith) is))

  positions : (sort : SortId) (s : Strategy) (t : Term) (m m' : ℕ) → m < suc n → m' ≡ m + k → Goes k m (meaning.positions p M sort s t m) (meaning.positions p M' sort s t m')
  positions sort s t m m' lt e = positions_node t.node sort s m m' lt e

  -- ---- strategies

  apply_found : (t : Term) (r : Option Rule) (m m' : ℕ) → m < suc n → m' ≡ m + k → Goes k m (meaning.apply_found p M t m r) (meaning.apply_found p M' t m' r)
  apply_found t None m m' lt e = none
  apply_found t (Some r) m m' lt e = apply r t m m' lt e

  call : (d : Option Named) (actuals : List Strategy) (t : Term) (m m' : ℕ) → m < suc n → m' ≡ m + k
      → Goes k m (meaning.call p M d actuals t m) (meaning.call p M' d actuals t m')
  call d actuals t zero zero lt e = out none
  call d actuals t zero (suc m') lt e = on (omega arith)
  call d actuals t (suc m) zero lt e = absurd (omega arith)
  call None actuals t (suc m) (suc m') lt e = none
  call (Some d) actuals t (suc m) (suc m') lt e =
      goes-more (omega arith) (follows.strategy (with_actuals actuals d.body) t m m' (omega arith) (omega arith))

  -- the strategies that a recursion has beside what they gave do not depend on it
  same_firsts : {A B : Type 0} (f : Layer (Strategy × A) → A) (g : Layer (Strategy × B) → B) {j : _} (row : Row_of-Strategy j)
      → firsts (para_row f row) ≡ firsts (para_row g row)
  same_firsts f g end_of-Strategy = refl
  same_firsts f g (more_of-Strategy s rest) = ap (λ r. record { node = s } ∷ r) (same_firsts f g rest)

  repeat_or : (s : Strategy) (t : Term) (m m' : ℕ) {is js : List Item} → m < n → m' ≡ m + k → Goes k m is js → Goes k m (meaning.repeat_or p M s t m is) (meaning.repeat_or p M' s t m' js)
  repeat_or s t m m' lt e none = one_result t m m' e
  repeat_or s t m m' lt e (result le is g) = goes-results (result le is g) (λ t i i' le' is'. follows.strategy (record { node = made.Repeat s }) t i i' (omega arith) is')
  repeat_or s t m m' lt e (deep g) = goes-results (deep g) (λ t i i' le' is'. follows.strategy (record { node = made.Repeat s }) t i i' (omega arith) is')
  repeat_or s t m m' lt e (out g) = goes-results (out g) (λ t i i' le' is'. follows.strategy (record { node = made.Repeat s }) t i i' (omega arith) is')
  repeat_or s t m m' lt e (on some) = on some

  repeat : (s : Strategy) (t : Term) (m m' : ℕ) → m < suc n → m' ≡ m + k → Goes k m (meaning.repeat p M s t m) (meaning.repeat p M' s t m')
  repeat s t zero zero lt e = out none
  repeat s t zero (suc m') lt e = on (omega arith)
  repeat s t (suc m) zero lt e = absurd (omega arith)
  repeat s t (suc m) (suc m') lt e =
      let below : m < n = omega arith in let raised : m' ≡ m + k = omega arith in
      goes-more (omega arith) (repeat_or s t m m' below raised (follows.strategy s t m m' below raised))

  iterate : (s : Strategy) (t : Term) (m m' : ℕ) → m < suc n → m' ≡ m + k → Goes k m (meaning.iterate p M s t m) (meaning.iterate p M' s t m')
  iterate s t zero zero lt e = out none
  iterate s t zero (suc m') lt e = on (omega arith)
  iterate s t (suc m) zero lt e = absurd (omega arith)
  iterate s t (suc m) (suc m') lt e =
      let below : m < n = omega arith in let raised : m' ≡ m + k = omega arith in
      goes-more (omega arith) (result (omega arith) raised
      (goes-results (follows.strategy s t m m' below raised) (λ u i i' le is. follows.strategy (record { node = made.Iterate s }) u i i' (omega arith) is)))

  iterate_plus : (s : Strategy) (t : Term) (m m' : ℕ) → m < suc n → m' ≡ m + k
      → Goes k m (meaning.iterate_plus p M s t m) (meaning.iterate_plus p M' s t m')
  iterate_plus s t zero zero lt e = out none
  iterate_plus s t zero (suc m') lt e = on (omega arith)
  iterate_plus s t (suc m) zero lt e = absurd (omega arith)
  iterate_plus s t (suc m) (suc m') lt e =
      let below : m < n = omega arith in let raised : m' ≡ m + k = omega arith in
      goes-more (omega arith)
      (goes-results (follows.strategy s t m m' below raised) (λ u i i' le is. follows.strategy (record { node = made.Iterate s }) u i i' (omega arith) is))

  congruent : (op : OpId) (fs fs' : List (Term → ℕ → List Item)) (x : term.TermNode) (m m' : ℕ) → m < suc n
      → ((us : List Term) → GoesRows k m (rows (paired fs us) m) (rows (paired fs' us) m'))
      → Goes k m (case_node (meaning.not_headed p M) (meaning.congruent p M op fs m) x)
      (case_node (meaning.not_headed p M') (meaning.congruent p M' op fs' m') x)
  unfolding meaning.normal_app meaning.normal_term
  congruent op fs fs' (term.Int z) m m' lt h = none
  congruent op fs fs' (term.App' head shape args) m m' lt h =
      goes-if (op.0 == head.0)
      (goes-items_of (h (term.items-the_row-Term _ args)) (λ us i i' le is. normal (pattern_of (app_term op us)) [] i i' (omega arith) is)) none

  mutual
    unfolding meaning.strategy meaning.apply_number meaning.arm_list meaning.normal_term chosen then_before

    strategy_node : (x : StrategyNode) (t : Term) (m m' : ℕ) → m < suc n → m' ≡ m + k
        → Goes k m (para_node (meaning.at_level p M) x t m) (para_node (meaning.at_level p M') x t m')
    strategy_node made.Id t m m' lt e = one_result t m m' e
    strategy_node made.Fail t m m' lt e = none
    strategy_node (made.Label rules) t m m' lt e = goes-flat_map rules (λ j. apply_found t (slice_get p.rules j) m m' lt e)
    strategy_node (made.Call' d shape actuals) t m m' lt e =
        let own : List Strategy = firsts (para_row (meaning.at_level p M) actuals) in
        let Goal : List Strategy → Type 0 = λ others. Goes k m (meaning.call p M (slice_get p.named d) own t m)
        (meaning.call p M' (slice_get p.named d) others t m') in
        subst Goal (same_firsts (meaning.at_level p M) (meaning.at_level p M') actuals) (call (slice_get p.named d) own t m m' lt e)
    strategy_node (made.Param number) t m m' lt e = none
    strategy_node (made.Seq' shape arms) t m m' lt e = sequence_row arms t m m' lt e
    strategy_node (made.All' shape arms) t m m' lt e = all_row arms t m m' lt e
    strategy_node (made.First' one shape arms) t m m' lt e = goes-if one (goes-head (first_row arms t m m' lt e)) (first_row arms t m m' lt e)
    strategy_node (made.Repeat' shape (more_of-Strategy s end_of-Strategy)) t m m' lt e = repeat (record { node = s }) t m m' lt e
    strategy_node (made.Iterate' shape (more_of-Strategy s end_of-Strategy)) t m m' lt e = iterate (record { node = s }) t m m' lt e
    strategy_node (made.IteratePlus' shape (more_of-Strategy s end_of-Strategy)) t m m' lt e = iterate_plus (record { node = s }) t m m' lt e
    strategy_node (made.Cong' op shape arms) t m m' lt e = congruent op _ _ t.node m m' lt (λ us. paired_row arms us m m' lt e)
    strategy_node (made.Normalise' sort shape (more_of-Strategy s end_of-Strategy)) t m m' lt e =
        goes-results (positions sort (record { node = s }) t m m' lt e) (λ u i i' le is. normal (pattern_of u) [] i i' (omega arith) is)

    sequence_row : {j : _} (arms : Row_of-Strategy j) (t : Term) (m m' : ℕ) → m < suc n → m' ≡ m + k
        → Goes k m (sequence (seconds (para_row (meaning.at_level p M) arms)) t m) (sequence (seconds (para_row (meaning.at_level p M') arms)) t m')
    sequence_row end_of-Strategy t m m' lt e = one_result t m m' e
    sequence_row (more_of-Strategy s rest) t m m' lt e = goes-results (strategy_node s t m m' lt e) (λ u i i' le is. sequence_row rest u i i' (omega arith) is)

    paired_row : {j : _} (arms : Row_of-Strategy j) (us : List Term) (m m' : ℕ) → m < suc n → m' ≡ m + k
        → GoesRows k m (rows (paired (seconds (para_row (meaning.at_level p M) arms)) us) m)
        (rows (paired (seconds (para_row (meaning.at_level p M') arms)) us) m')
    paired_row end_of-Strategy us m m' lt e = row (omega arith) e no_row
    paired_row (more_of-Strategy s rest) [] m m' lt e = row (omega arith) e no_row
    paired_row (more_of-Strategy s rest) (u ∷ us) m m' lt e =
        goes-rows_of (strategy_node s u m m' lt e) (λ v i i' le is. rows-before v (paired_row rest us i i' (omega arith) is))

    all_row : {j : _} (arms : Row_of-Strategy j) (t : Term) (m m' : ℕ) → m < suc n → m' ≡ m + k
        → Goes k m (flat_map (meaning.arm_list p M t m) (para_row (meaning.at_level p M) arms)) (flat_map (meaning.arm_list p M' t m') (para_row (meaning.at_level p M') arms))
    all_row end_of-Strategy t m m' lt e = none
    all_row (more_of-Strategy s rest) t m m' lt e = goes-append (strategy_node s t m m' lt e) (all_row rest t m m' lt e)

    first_row : {j : _} (arms : Row_of-Strategy j) (t : Term) (m m' : ℕ) → m < suc n → m' ≡ m + k
        → Goes k m (first_of (map (meaning.arm_list p M t m) (para_row (meaning.at_level p M) arms))) (first_of (map (meaning.arm_list p M' t m') (para_row (meaning.at_level p M') arms)))
    first_row end_of-Strategy t m m' lt e = none
    first_row (more_of-Strategy s rest) t m m' lt e = goes-or_else (strategy_node s t m m' lt e) (first_row rest t m m' lt e)

  strategy : (s : Strategy) (t : Term) (m m' : ℕ) → m < suc n → m' ≡ m + k → Goes k m (meaning.strategy p M s t m) (meaning.strategy p M' s t m')
  unfolding meaning.strategy
  strategy s t m m' lt e = strategy_node s.node t m m' lt e

  -- ---- clauses

  if_true : {i j : Item} {f g : ℕ → List Entry} (m : ℕ) → Goes k m (i ∷ []) (j ∷ []) → ((i i' : ℕ) → i ≤ m → i' ≡ i + k → GoesRows k i (f i) (g i'))
      → GoesRows k m (meaning.if_true p M i f) (meaning.if_true p M' j g)
  if_true m (result {t = t} {m = i} {m' = i'} le e g) h = rows-if (is_true p.signature.truth t) (rows-more le (h i i' le e)) no_row
  if_true m (deep g) h = deep_row no_row
  if_true m (out g) h = out_row no_row
  if_true m (on some) h = on_row some

  if_result : {i j : Item} {f g : Term → ℕ → List Entry} (m : ℕ) → Goes k m (i ∷ []) (j ∷ []) → ((t : Term) (i i' : ℕ) → i ≤ m → i' ≡ i + k → GoesRows k i (f t i) (g t i'))
      → GoesRows k m (meaning.if_result p M i f) (meaning.if_result p M' j g)
  if_result m (result {t = t} {m = i} {m' = i'} le e g) h = rows-more le (h t i i' le e)
  if_result m (deep g) h = deep_row no_row
  if_result m (out g) h = out_row no_row
  if_result m (on some) h = on_row some

  clauses : (cs : List Clause) (a : List Term) (m m' : ℕ) → m < suc n → m' ≡ m + k → GoesRows k m (meaning.clauses p M cs a m) (meaning.clauses p M' cs a m')
  unfolding meaning.clauses meaning.sought meaning.found matched
  clauses [] a m m' lt e = row (omega arith) e no_row
  clauses (If t ∷ cs) a m m' lt e = if_true m (normal t a m m' lt e) (λ i i' le is. clauses cs a i i' (omega arith) is)
  clauses (Where left s t ∷ cs) a m m' lt e =
      if_result m (normal t a m m' lt e) (λ u i i' le is.
      let low : i < suc n = omega arith in
      goes-rows_of (strategy s u i i' low is) (λ v j j' le' is'.
      rows-flat_map (matches (shapes_of p.signature) left v) (λ b. let lower : j < suc n = omega arith in clauses cs (a ++ b) j j' lower is')))

  pub one_level : Follows k (suc n) (meaning.level p M) (meaning.level p M')
  one_level = record { normal = normal; clauses = clauses; positions = positions; strategy = strategy }

-- a meaning follows another, as far as both have levels
pub follows : (p : Program) (k n f g : ℕ) → n ≤ f → n ≤ g → Follows k n (below p f) (below p g)
unfolding below
follows p k zero f g le le' = record {
  normal = λ q a m m' lt e. absurd (omega arith);
  clauses = λ cs a m m' lt e. absurd (omega arith);
  positions = λ sort s t m m' lt e. absurd (omega arith);
  strategy = λ s t m m' lt e. absurd (omega arith);
}
follows p k (suc n) zero g le le' = absurd (omega arith)
follows p k (suc n) (suc f) zero le le' = absurd (omega arith)
follows p k (suc n) (suc f) (suc g) le le' = one_level p k n (below p f) (below p g) (follows p k n f g (omega arith) (omega arith))
