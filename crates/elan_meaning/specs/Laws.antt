-- The lists of the definitions, and how two of them go together, of which the second is made with
-- k more steps left.
use Rattle.std.specs.Prelude.{◌≡◌, ℕ, ◌+◌, ◌<◌, ◌≤◌, min, Bool, true, false, List, [], ◌∷◌, ◌++◌}
use Rattle.elan_terms.specs.declared.tree.SortId.{SortId}
use Rattle.elan_terms.specs.declared.tree.Term.{Term}
use Rattle.elan_terms.specs.declared.tree.Pattern.{Pattern}
use Rattle.elan_program.specs.declared.strategy.Strategy.{Strategy}
use Rattle.elan_program.specs.declared.program.Clause.{Clause}
use Rattle.elan_program.specs.declared.program.Rule.{Rule}
use Rattle.elan_program.specs.declared.program.Program.{Program}
use Rattle.elan_meaning.specs.declared.item.Item.{Item}
use Rattle.elan_meaning.specs.declared.item.Entry.{Entry}
use Rattle.elan_meaning.specs.declared.item.Entry.TheVariants.{At, Stop}
use Rattle.elan_meaning.specs.declared.item.Item.TheVariants.{Res, Mark}
use Rattle.elan_meaning.specs.declared.item.Cause.TheVariants.{Steps, Depth}
use Rattle.elan_meaning.specs.Meaning.{Meaning, within, below, apply, of_node, placed}

-- The second goes on as the first does, with k more steps left in each result, as far as the first
-- has no mark `out of steps`. No result of the first has more than n steps left. For k = 0 the two
-- lists are equal.
pub data Goes (k n : ℕ) : List Item → List Item → Type 0 where
  none : Goes k n [] []
  result : {t : Term} {m m' : ℕ} {is js : List Item} → m ≤ n → m' ≡ m + k → Goes k n is js → Goes k n (Res t m ∷ is) (Res t m' ∷ js)
  deep : {is js : List Item} → Goes k n is js → Goes k n (Mark Depth ∷ is) (Mark Depth ∷ js)
  out : {is js : List Item} → Goes k n is js → Goes k n (Mark Steps ∷ is) (Mark Steps ∷ js)
  on : {is js : List Item} → 0 < k → Goes k n (Mark Steps ∷ is) js

-- the same of entries
pub data GoesRows (k n : ℕ) : List Entry → List Entry → Type 0 where
  no_row : GoesRows k n [] []
  row : {ts : List Term} {m m' : ℕ} {is js : List Entry} → m ≤ n → m' ≡ m + k → GoesRows k n is js → GoesRows k n (At ts m ∷ is) (At ts m' ∷ js)
  deep_row : {is js : List Entry} → GoesRows k n is js → GoesRows k n (Stop Depth ∷ is) (Stop Depth ∷ js)
  out_row : {is js : List Entry} → GoesRows k n is js → GoesRows k n (Stop Steps ∷ is) (Stop Steps ∷ js)
  on_row : {is js : List Entry} → 0 < k → GoesRows k n (Stop Steps ∷ is) js

-- with fewer than n steps left, the second meaning goes on as the first does
pub record Follows (k n : ℕ) (M M' : Meaning) : Type 0 where
  pub normal : (q : Pattern) (a : List Term) (m m' : ℕ) → m < n → m' ≡ m + k → Goes k m (M.normal q a m ∷ []) (M'.normal q a m' ∷ [])
  pub clauses : (cs : List Clause) (a : List Term) (m m' : ℕ) → m < n → m' ≡ m + k → GoesRows k m (M.clauses cs a m) (M'.clauses cs a m')
  pub positions : (sort : SortId) (s : Strategy) (t : Term) (m m' : ℕ) → m < n → m' ≡ m + k → Goes k m (M.positions sort s t m) (M'.positions sort s t m')
  pub strategy : (s : Strategy) (t : Term) (m m' : ℕ) → m < n → m' ≡ m + k → Goes k m (M.strategy s t m) (M'.strategy s t m')

-- ---- the laws in plain words

-- no result has more than n steps left
abbrev pub AtMost : ℕ → List Item → Type 0
AtMost n [] = Unit {0}
AtMost n (Res t m ∷ is) = (m ≤ n) × AtMost n is
AtMost n (Mark c ∷ is) = AtMost n is

-- no row has more than n steps left
abbrev pub AtMostRows : ℕ → List Entry → Type 0
AtMostRows n [] = Unit {0}
AtMostRows n (At ts m ∷ es) = (m ≤ n) × AtMostRows n es
AtMostRows n (Stop c ∷ es) = AtMostRows n es

-- what stands before the first mark `out of steps`
abbrev pub before_out : List Item → List Item
before_out [] = []
before_out (Res t m ∷ is) = Res t m ∷ before_out is
before_out (Mark Depth ∷ is) = Mark Depth ∷ before_out is
before_out (Mark Steps ∷ is) = []

-- the same of entries
abbrev pub rows_before_out : List Entry → List Entry
rows_before_out [] = []
rows_before_out (At ts m ∷ es) = At ts m ∷ rows_before_out es
rows_before_out (Stop Depth ∷ es) = Stop Depth ∷ rows_before_out es
rows_before_out (Stop Steps ∷ es) = []

-- whether there is a mark `out of steps`
abbrev pub runs_out : List Item → Bool
runs_out [] = false
runs_out (Res t m ∷ is) = runs_out is
runs_out (Mark Depth ∷ is) = runs_out is
runs_out (Mark Steps ∷ is) = true

-- the same of entries
abbrev pub rows_run_out : List Entry → Bool
rows_run_out [] = false
rows_run_out (At ts m ∷ es) = rows_run_out es
rows_run_out (Stop Depth ∷ es) = rows_run_out es
rows_run_out (Stop Steps ∷ es) = true

-- with k more steps left in each result
abbrev pub raised : ℕ → List Item → List Item
raised k [] = []
raised k (Res t m ∷ is) = Res t (m + k) ∷ raised k is
raised k (Mark c ∷ is) = Mark c ∷ raised k is

-- with k more steps left in each row
abbrev pub raised_rows : ℕ → List Entry → List Entry
raised_rows k [] = []
raised_rows k (At ts m ∷ es) = At ts (m + k) ∷ raised_rows k es
raised_rows k (Stop c ∷ es) = Stop c ∷ raised_rows k es

-- what stands in the first list before its first mark `out of steps` begins the second, and is all of
-- it where the first has no such mark
pub record GoesOn (k : ℕ) (is js : List Item) : Type 0 where
  pub begins : (rest : List Item) × (raised k (before_out is) ++ rest ≡ js)
  pub whole : runs_out is ≡ false → raised k is ≡ js

-- the same of entries
pub record RowsGoOn (k : ℕ) (es fs : List Entry) : Type 0 where
  pub begins : (rest : List Entry) × (raised_rows k (rows_before_out es) ++ rest ≡ fs)
  pub whole : rows_run_out es ≡ false → raised_rows k es ≡ fs

-- with the lesser of the steps left and n in each result
abbrev pub lowered : ℕ → List Item → List Item
lowered n [] = []
lowered n (Res t m ∷ is) = Res t (min m n) ∷ lowered n is
lowered n (Mark c ∷ is) = Mark c ∷ lowered n is

-- with the lesser of the steps left and n in each row
abbrev pub lowered_rows : ℕ → List Entry → List Entry
lowered_rows n [] = []
lowered_rows n (At ts m ∷ es) = At ts (min m n) ∷ lowered_rows n es
lowered_rows n (Stop c ∷ es) = Stop c ∷ lowered_rows n es

-- ---- the lists of the definitions, made with n steps left

module _ (p : Program) where
  -- of a strategy on a term
  abbrev pub strategy_items : Strategy → Term → ℕ → List Item
  strategy_items s t n = (within p n).strategy s t n

  -- of a rule on a term
  abbrev pub rule_items : Rule → Term → ℕ → List Item
  rule_items r t n = apply p (below p n) r t n

  -- of the conditions of a rule, under an assignment
  abbrev pub clause_entries : List Clause → List Term → ℕ → List Entry
  clause_entries cs a n = (within p n).clauses cs a n

  -- of a strategy at the positions of a sort in a term
  abbrev pub position_items : SortId → Strategy → Term → ℕ → List Item
  position_items sort s t n = (within p n).positions sort s t n

  -- the one item of a pattern under an assignment
  abbrev pub normal_item : Pattern → List Term → ℕ → Item
  normal_item q a n = (within p n).normal q a n

  -- the one item of a canonical node
  abbrev pub node_item : Term → ℕ → Item
  node_item u n = of_node p (below p n) u n

  -- of a strategy at a canonical node of a term
  abbrev pub place_items : SortId → Strategy → Term → ℕ → List Item
  place_items sort s u n = placed p (below p n) sort s u n

  -- all of them together
  abbrev pub meant : Meaning
  meant = record {
    normal = normal_item;
    clauses = clause_entries;
    positions = position_items;
    strategy = strategy_items;
  }
