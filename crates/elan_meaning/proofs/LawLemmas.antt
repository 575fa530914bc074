-- The laws of steps, from `Goes`.
use Rattle.std.proofs.Common.{◌≡◌, refl, sym, ◌∙◌, ap, ℕ, suc, ◌+◌, ◌<◌, ◌≤◌, false, true, List, [], ◌∷◌, ◌++◌, arith}
use Rattle.elan_terms.specs.declared.tree.SortId.{SortId}
use Rattle.elan_terms.specs.declared.tree.Term.{Term}
use Rattle.elan_terms.specs.declared.tree.Pattern.{Pattern}
use Rattle.elan_program.specs.declared.strategy.Strategy.{Strategy}
use Rattle.elan_program.specs.declared.program.Clause.{Clause}
use Rattle.elan_program.specs.declared.program.Rule.{Rule}
use Rattle.elan_program.specs.declared.program.Program.{Program}
use Rattle.elan_meaning.specs.declared.item.Entry.{Entry}
use Rattle.elan_meaning.specs.declared.item.Entry.TheVariants.{At, Stop}
use Rattle.elan_meaning.specs.declared.item.Item.{Item}
use Rattle.elan_meaning.specs.declared.item.Item.TheVariants.{Res, Mark}
use Rattle.elan_meaning.specs.declared.item.Cause.TheVariants.{Steps, Depth}
use Rattle.elan_meaning.specs.Meaning.{within, below, answers}
use Rattle.elan_meaning.specs.Laws.{Goes, none, result, deep, out, on, GoesRows, no_row, row, deep_row, out_row, on_row, Follows, AtMost, AtMostRows, before_out, rows_before_out, runs_out, rows_run_out, raised, raised_rows, GoesOn, RowsGoOn, strategy_items, rule_items, clause_entries, position_items, normal_item, node_item}
use Rattle.elan_meaning.proofs.GoesLemmas.{goes-results}
use Rattle.elan_meaning.proofs.Steps.{follows, apply as applied, of_node as node_goes}

pub at_most : {k n : ℕ} {is js : List Item} → k ≡ 0 → Goes k n is js → AtMost n is
at_most z none = tt
at_most z (result le e g) = (le, at_most z g)
at_most z (deep g) = at_most z g
at_most z (out g) = at_most z g
at_most z (on some) = absurd (omega arith)

-- with no more steps the lists are equal
pub goes-same : {k n : ℕ} {is js : List Item} → k ≡ 0 → Goes k n is js → is ≡ js
goes-same z none = refl
goes-same z (result {t = t} {m = m} {m' = m'} {is = is} le e g) =
    let same : m ≡ m' = omega arith in ap (λ i. Res t i ∷ is) same ∙ ap (λ is. Res t m' ∷ is) (goes-same z g)
goes-same z (deep g) = ap (λ is. Mark Depth ∷ is) (goes-same z g)
goes-same z (out g) = ap (λ is. Mark Steps ∷ is) (goes-same z g)
goes-same z (on some) = absurd (omega arith)

put_back : (t : Term) (i m' : ℕ) (is js : List Item) → m' ≡ i → is ≡ js → Res t i ∷ is ≡ Res t m' ∷ js
put_back t i m' is js e f = ap (λ j. Res t j ∷ is) (sym e) ∙ ap (λ is. Res t m' ∷ is) f

begins : {k n : ℕ} {is js : List Item} → Goes k n is js → (rest : List Item) × (raised k (before_out is) ++ rest ≡ js)
begins none = ([], refl)
begins (result {t = t} {m' = m'} {js = js} le e g) = ((begins g).0, put_back t _ m' _ js e (begins g).1)
begins (deep g) = ((begins g).0, ap (λ is. Mark Depth ∷ is) (begins g).1)
begins (out {js = js} g) = (Mark Steps ∷ js, refl)
begins (on {js = js} some) = (js, refl)

whole : {k n : ℕ} {is js : List Item} → Goes k n is js → runs_out is ≡ false → raised k is ≡ js
whole none h = refl
whole (result {t = t} {m' = m'} {js = js} le e g) h = put_back t _ m' _ js e (whole g h)
whole (deep g) h = ap (λ is. Mark Depth ∷ is) (whole g h)
whole (out g) h = absurd (true_is_false h)
  where
    true_is_false : true ≡ false → ⊥
    true_is_false e = cc
whole (on some) h = absurd (true_is_false h)
  where
    true_is_false : true ≡ false → ⊥
    true_is_false e = cc

pub goes_on : {k n : ℕ} {is js : List Item} → Goes k n is js → GoesOn k is js
goes_on g = record { begins = begins g; whole = whole g }

-- ---- entries

pub rows_at_most : {k n : ℕ} {es fs : List Entry} → k ≡ 0 → GoesRows k n es fs → AtMostRows n es
rows_at_most z no_row = tt
rows_at_most z (row le e g) = (le, rows_at_most z g)
rows_at_most z (deep_row g) = rows_at_most z g
rows_at_most z (out_row g) = rows_at_most z g
rows_at_most z (on_row some) = absurd (omega arith)

put_row_back : (ts : List Term) (i m' : ℕ) (es fs : List Entry) → m' ≡ i → es ≡ fs → At ts i ∷ es ≡ At ts m' ∷ fs
put_row_back ts i m' es fs e f = ap (λ j. At ts j ∷ es) (sym e) ∙ ap (λ es. At ts m' ∷ es) f

rows_begin : {k n : ℕ} {es fs : List Entry} → GoesRows k n es fs → (rest : List Entry) × (raised_rows k (rows_before_out es) ++ rest ≡ fs)
rows_begin no_row = ([], refl)
rows_begin (row {ts = ts} {m' = m'} {js = js} le e g) = ((rows_begin g).0, put_row_back ts _ m' _ js e (rows_begin g).1)
rows_begin (deep_row g) = ((rows_begin g).0, ap (λ es. Stop Depth ∷ es) (rows_begin g).1)
rows_begin (out_row {js = js} g) = (Stop Steps ∷ js, refl)
rows_begin (on_row {js = js} some) = (js, refl)

rows_whole : {k n : ℕ} {es fs : List Entry} → GoesRows k n es fs → rows_run_out es ≡ false → raised_rows k es ≡ fs
rows_whole no_row h = refl
rows_whole (row {ts = ts} {m' = m'} {js = js} le e g) h = put_row_back ts _ m' _ js e (rows_whole g h)
rows_whole (deep_row g) h = ap (λ es. Stop Depth ∷ es) (rows_whole g h)
rows_whole (out_row g) h = absurd (true_is_false h)
  where
    true_is_false : true ≡ false → ⊥
    true_is_false e = cc
rows_whole (on_row some) h = absurd (true_is_false h)
  where
    true_is_false : true ≡ false → ⊥
    true_is_false e = cc

pub rows_go_on : {k n : ℕ} {es fs : List Entry} → GoesRows k n es fs → RowsGoOn k es fs
rows_go_on g = record { begins = rows_begin g; whole = rows_whole g }

-- ---- the meanings within n

pub within_follows : (p : Program) (k n f g : ℕ) → n ≤ f → n ≤ g → Follows k (suc n) (within p f) (within p g)
unfolding below
within_follows p k n f g le le' = follows p k (suc n) (suc f) (suc g) (omega arith) (omega arith)

module _ (p : Program) (n k : ℕ) where
  more : Follows k (suc n) (within p n) (within p (n + k))
  more = within_follows p k n n (n + k) (omega arith) (omega arith)

  below_last : n < suc n
  below_last = omega arith

  -- the list of a rule, which is made one level lower
  rule_goes : (r : Rule) (t : Term) → Goes k n (rule_items p r t n) (rule_items p r t (n + k))
  rule_goes r t =
      let le : n ≤ n = omega arith in let le' : n ≤ n + k = omega arith in
      applied p k n (below p n) (below p (n + k)) (follows p k n n (n + k) le le') r t n (n + k) below_last refl

  -- the item of a canonical node, which is made one level lower too
  item_goes : (u : Term) → Goes k n (node_item p u n ∷ []) (node_item p u (n + k) ∷ [])
  item_goes u =
      let le : n ≤ n = omega arith in let le' : n ≤ n + k = omega arith in
      node_goes p k n (below p n) (below p (n + k)) (follows p k n n (n + k) le le') u n (n + k) below_last refl

  answers_go : (start : Strategy) (query : Pattern) → Goes k n (answers p start query n) (answers p start query (n + k))
  unfolding answers
  answers_go start query = goes-results (more.normal query [] n (n + k) below_last refl) (λ t m m' low up. more.strategy start t m m' (omega arith) up)

  pub strategy_more : (s : Strategy) (t : Term) → GoesOn k (strategy_items p s t n) (strategy_items p s t (n + k))
  strategy_more s t = goes_on (more.strategy s t n (n + k) below_last refl)

  pub rule_more : (r : Rule) (t : Term) → GoesOn k (rule_items p r t n) (rule_items p r t (n + k))
  rule_more r t = goes_on (rule_goes r t)

  pub node_more : (u : Term) → GoesOn k (node_item p u n ∷ []) (node_item p u (n + k) ∷ [])
  node_more u = goes_on (item_goes u)

  pub clauses_more : (cs : List Clause) (a : List Term) → RowsGoOn k (clause_entries p cs a n) (clause_entries p cs a (n + k))
  clauses_more cs a = rows_go_on (more.clauses cs a n (n + k) below_last refl)

  pub positions_more : (sort : SortId) (s : Strategy) (t : Term) → GoesOn k (position_items p sort s t n) (position_items p sort s t (n + k))
  positions_more sort s t = goes_on (more.positions sort s t n (n + k) below_last refl)

  pub normal_more : (q : Pattern) (a : List Term) → GoesOn k (normal_item p q a n ∷ []) (normal_item p q a (n + k) ∷ [])
  normal_more q a = goes_on (more.normal q a n (n + k) below_last refl)

  pub answers_more : (start : Strategy) (query : Pattern) → GoesOn k (answers p start query n) (answers p start query (n + k))
  answers_more start query = goes_on (answers_go start query)

-- with no more steps: what is left
module _ (p : Program) (n : ℕ) where
  pub strategy_left : (s : Strategy) (t : Term) → AtMost n (strategy_items p s t n)
  strategy_left s t = at_most refl ((more p n 0).strategy s t n (n + 0) (below_last p n 0) refl)

  pub rule_left : (r : Rule) (t : Term) → AtMost n (rule_items p r t n)
  rule_left r t = at_most refl (rule_goes p n 0 r t)

  pub node_left : (u : Term) → AtMost n (node_item p u n ∷ [])
  node_left u = at_most refl (item_goes p n 0 u)

  pub clauses_left : (cs : List Clause) (a : List Term) → AtMostRows n (clause_entries p cs a n)
  clauses_left cs a = rows_at_most refl ((more p n 0).clauses cs a n (n + 0) (below_last p n 0) refl)

  pub positions_left : (sort : SortId) (s : Strategy) (t : Term) → AtMost n (position_items p sort s t n)
  positions_left sort s t = at_most refl ((more p n 0).positions sort s t n (n + 0) (below_last p n 0) refl)

  pub normal_left : (q : Pattern) (a : List Term) → AtMost n (normal_item p q a n ∷ [])
  normal_left q a = at_most refl ((more p n 0).normal q a n (n + 0) (below_last p n 0) refl)

  pub answers_left : (start : Strategy) (query : Pattern) → AtMost n (answers p start query n)
  answers_left start query = at_most refl (answers_go p n 0 start query)

-- any number of levels that is enough gives the same list
pub enough : (p : Program) (s : Strategy) (t : Term) (n f : ℕ) → n ≤ f → (within p f).strategy s t n ≡ strategy_items p s t n
enough p s t n f le =
    let e : n ≡ n + 0 = omega arith in let lt : n < suc n = omega arith in let le' : n ≤ n = omega arith in
    goes-same refl ((within_follows p 0 n f n le le').strategy s t n n lt e)
