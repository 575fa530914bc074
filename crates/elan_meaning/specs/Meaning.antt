-- What normalising, rules, clauses and strategies give.
use Rattle.std.specs.Prelude.{ℕ, zero, suc, ℤ, pos, if◌then◌else◌, nat_lt, ◌==◌, Option, Some, None, List, [], ◌∷◌, map, slice_get}
use Rattle.std.specs.List.{flat_map}
use Rattle.elan_terms.specs.declared.tree.OpId.{OpId}
use Rattle.elan_terms.specs.declared.tree.SortId.{SortId}
use Rattle.elan_terms.specs.declared.tree.Term.{Term}
use Rattle.elan_terms.specs.declared.tree.Pattern.{Pattern}
use Rattle.elan_terms.specs.Trees.{fold_term, fold_pattern, case_term, int_term, app_term}
use Rattle.elan_terms.specs.Term.{depth, node, sort_of}
use Rattle.elan_terms.specs.Match.{matches, is_sort}
use Rattle.elan_program.specs.declared.strategy.Strategy.{Strategy}
use Rattle.elan_program.specs.declared.strategy.StrategyNode.TheVariants as made
use Rattle.elan_program.specs.declared.strategy.StrategyNode.TheOpen.{StrategyNode-F as layer}
use Rattle.elan_program.specs.declared.program.Clause.{Clause}
use Rattle.elan_program.specs.declared.program.Clause.TheVariants.{If, Where}
use Rattle.elan_program.specs.declared.program.Rule.{Rule}
use Rattle.elan_program.specs.declared.program.Named.{Named}
use Rattle.elan_program.specs.declared.program.Program.{Program}
use Rattle.elan_program.specs.Signature.{shapes_of}
use Rattle.elan_program.specs.Strategies.{Layer, para_strategy, firsts, seconds, with_actuals}
use Rattle.elan_program.specs.Extension.{unlabelled, int_pattern, app_pattern}
use Rattle.elan_program.specs.Builtins.{reduced, is_true}
use Rattle.elan_meaning.specs.declared.item.Item.{Item}
use Rattle.elan_meaning.specs.declared.item.Entry.{Entry}
use Rattle.elan_meaning.specs.declared.item.Entry.TheVariants.{At, Stop}
use Rattle.elan_meaning.specs.declared.item.Item.TheVariants.{Res, Mark}
use Rattle.elan_meaning.specs.declared.item.Cause.TheVariants.{Steps, Depth}
use Rattle.elan_meaning.specs.Items.{on_results, or_else, first_of, chosen, first_or, rows_of, items_of, one_of, matched, in_turn, rows, paired, sequence}

-- how deep a term may be
abbrev pub max_depth : ℕ
max_depth = 2000

-- a term as a pattern without variables
unfoldable pub pattern_of : Term → Pattern
pattern_of = fold_term int_pattern app_pattern

-- the value of a variable; the integer 0 where there is none, which no valid program meets
abbrev pub value_of : List Term → ℕ → Term
value_of [] x = int_term (pos 0)
value_of (t ∷ ts) zero = t
value_of (t ∷ ts) (suc x) = value_of ts x

-- What the four kinds of recursion give. Each number is of the steps left.
pub record Meaning : Type 0 where
  pub normal : Pattern → List Term → ℕ → Item
  pub clauses : List Clause → List Term → ℕ → List Entry
  pub positions : SortId → Strategy → Term → ℕ → List Item
  pub strategy : Strategy → Term → ℕ → List Item

-- The meaning in which one more step may be taken than in the meaning below.
module _ (p : Program) (below : Meaning) where
  -- ---- applying a rule: each match costs a step, before its conditions are looked at

  -- the right side normalised under each assignment that meets the conditions
  abbrev pub finished : Rule → List Entry → List Item
  finished r es = items_of es (λ b m. below.normal r.right b m ∷ [])

  -- what one match of the left side gives
  abbrev pub taken_up : Rule → ℕ → List Term → List Item
  taken_up r zero a = Mark Steps ∷ []
  taken_up r (suc n) a = finished r (below.clauses r.clauses a n)

  -- what a rule gives on a term: its matches in order
  unfoldable pub apply : Rule → Term → ℕ → List Item
  apply r t n = flat_map (taken_up r n) (matches (shapes_of p.signature) r.left t)

  -- ---- normalising

  -- the items of the first of these rules that gives any
  abbrev pub tried : List Rule → Term → ℕ → List Item
  tried [] u n = []
  tried (r ∷ rs) u n = or_else (apply r u n) (tried rs u n)

  -- The meaning of a canonical node. Too deep: the mark; else its built-in value or itself; then the
  -- first item of the first unlabelled rule that gives any; else that term.
  unfoldable pub of_node : Term → ℕ → Item
  of_node u n =
      if nat_lt max_depth (depth u) then Mark Depth
      else (let w : Term = reduced p.signature u in first_or (tried (unlabelled p) w n) (Res w n))

  -- the meaning of the canonical node of these arguments
  unfoldable pub of_args : OpId → List Term → ℕ → Item
  of_args op us m = of_node (node (shapes_of p.signature) op us) m

  -- a variable gives its value as it is
  abbrev pub of_var : ℕ → SortId → List Term → ℕ → Item
  of_var x sort a n = Res (value_of a x) n

  -- an integer is a node
  abbrev pub of_int : ℤ → List Term → ℕ → Item
  of_int z a n = of_node (int_term z) n

  -- an application gives what the canonical node of its arguments' results gives, or the first mark
  -- among them
  abbrev pub of_app : OpId → List (List Term → ℕ → Item) → List Term → ℕ → Item
  of_app op args a n = one_of (in_turn args a n) (of_args op)

  -- the one item of a pattern under an assignment
  unfoldable pub normal : Pattern → List Term → ℕ → Item
  normal = fold_pattern of_var of_int of_app

  -- ---- strategies at positions

  -- each result worked on again as a whole, and the node itself where there is none
  abbrev pub again_or : SortId → Strategy → Term → ℕ → List Item → List Item
  again_or sort s u m [] = Res u m ∷ []
  again_or sort s u m (i ∷ is) = on_results (i ∷ is) (below.positions sort s)

  -- a node of the sort: a try costs a step
  abbrev pub at_node : SortId → Strategy → Term → ℕ → List Item
  at_node sort s u zero = Mark Steps ∷ []
  at_node sort s u (suc m) = again_or sort s u m (below.strategy s u m)

  -- a canonical node on its own: too deep, tried, or of another sort and left as it is
  unfoldable pub placed : SortId → Strategy → Term → ℕ → List Item
  placed sort s u m =
      if nat_lt max_depth (depth u) then Mark Depth ∷ []
      else (if is_sort (sort_of (shapes_of p.signature) u) sort then at_node sort s u m
      else Res u m ∷ [])

  -- the canonical node of one row of results
  unfoldable pub placed_node : SortId → Strategy → OpId → List Term → ℕ → List Item
  placed_node sort s op us m = placed sort s (node (shapes_of p.signature) op us) m

  -- an integer has no arguments
  abbrev pub at_int : SortId → Strategy → ℤ → ℕ → List Item
  at_int sort s z n = placed sort s (int_term z) n

  -- an application is built again from each row of its arguments' results
  abbrev pub at_app : SortId → Strategy → OpId → List (ℕ → List Item) → ℕ → List Item
  at_app sort s op args n = items_of (rows args n) (placed_node sort s op)

  -- a strategy at the positions of a sort in a term, from the inside out
  unfoldable pub positions : SortId → Strategy → Term → ℕ → List Item
  positions sort s = fold_term (at_int sort s) (at_app sort s)

  -- ---- strategies

  -- what a rule gives, if it is there
  abbrev pub apply_found : Term → ℕ → Option Rule → List Item
  apply_found t n None = []
  apply_found t n (Some r) = apply r t n

  -- what the rule of this number gives
  unfoldable pub apply_number : Term → ℕ → ℕ → List Item
  apply_number t n k = apply_found t n (slice_get p.rules k)

  -- a named strategy: its call costs a step, and its body stands with the actuals in the places of
  -- its parameters
  abbrev pub call : Option Named → List Strategy → Term → ℕ → List Item
  call d actuals t zero = Mark Steps ∷ []
  call None actuals t (suc n) = []
  call (Some d) actuals t (suc n) = below.strategy (with_actuals actuals d.body) t n

  -- `repeat*` again on each result, and the term itself where there is none
  abbrev pub repeat_or : Strategy → Term → ℕ → List Item → List Item
  repeat_or s t n [] = Res t n ∷ []
  repeat_or s t n (i ∷ is) = on_results (i ∷ is) (below.strategy (record { node = made.Repeat s }))

  -- `repeat*`: a round costs a step
  abbrev pub repeat : Strategy → Term → ℕ → List Item
  repeat s t zero = Mark Steps ∷ []
  repeat s t (suc n) = repeat_or s t n (below.strategy s t n)

  -- `iterate*`: a round costs a step, and the term comes before what its results give
  abbrev pub iterate : Strategy → Term → ℕ → List Item
  iterate s t zero = Mark Steps ∷ []
  iterate s t (suc n) = Res t n ∷ on_results (below.strategy s t n) (below.strategy (record { node = made.Iterate s }))

  -- `iterate+`: its start costs a step, and the term itself is left out
  abbrev pub iterate_plus : Strategy → Term → ℕ → List Item
  iterate_plus s t zero = Mark Steps ∷ []
  iterate_plus s t (suc n) =
      on_results (below.strategy s t n) (below.strategy (record { node = made.Iterate s }))

  -- the whole term normalised by the unlabelled rules
  unfoldable pub normal_term : Term → ℕ → List Item
  normal_term u m = normal (pattern_of u) [] m ∷ []

  -- an operator over one row of results, normalised as a whole
  unfoldable pub normal_app : OpId → List Term → ℕ → List Item
  normal_app op us m = normal_term (app_term op us) m

  -- a congruence on an integer
  abbrev pub not_headed : ℤ → List Item
  not_headed z = []

  -- A congruence on an application: nothing where another operator heads it. Else the arguments are
  -- taken from left to right, each with all items of its strategy, and each row of results is
  -- normalised as a whole.
  abbrev pub congruent : OpId → List (Term → ℕ → List Item) → ℕ → OpId → List Term → List Item
  congruent op fs n head us =
      if op.0 == head.0 then items_of (rows (paired fs us) n) (normal_app op) else []

  -- the list of an arm
  unfoldable pub arm_list : Term → ℕ → Strategy × (Term → ℕ → List Item) → List Item
  arm_list t n s = s.1 t n

  -- the list of a strategy, from the lists of the strategies in it
  abbrev pub at_level : Layer (Strategy × (Term → ℕ → List Item)) → Term → ℕ → List Item
  at_level layer.Id t n = Res t n ∷ []
  at_level layer.Fail t n = []
  at_level (layer.Label rules) t n = flat_map (apply_number t n) rules
  at_level (layer.Call d actuals) t n = call (slice_get p.named d) (firsts actuals) t n
  at_level (layer.Param number) t n = []
  at_level (layer.Seq arms) t n = sequence (seconds arms) t n
  at_level (layer.All arms) t n = flat_map (arm_list t n) arms
  at_level (layer.First one arms) t n = chosen one (first_of (map (arm_list t n) arms))
  at_level (layer.Repeat s) t n = repeat s.0 t n
  at_level (layer.Iterate s) t n = iterate s.0 t n
  at_level (layer.IteratePlus s) t n = iterate_plus s.0 t n
  at_level (layer.Cong op arms) t n = case_term not_headed (congruent op (seconds arms) n) t
  at_level (layer.Normalise sort s) t n = on_results (positions sort s.0 t n) normal_term

  -- the list of a strategy on a term
  unfoldable pub strategy : Strategy → Term → ℕ → List Item
  strategy = para_strategy at_level

  -- the same with the strategy last
  unfoldable pub strategy_on : Term → ℕ → Strategy → List Item
  strategy_on t n s = strategy s t n

  -- ---- clauses

  -- what follows a condition that normalised to `true`
  abbrev pub if_true : Item → (ℕ → List Entry) → List Entry
  if_true (Mark c) k = Stop c ∷ []
  if_true (Res t m) k = if is_true p.signature.truth t then k m else []

  -- what follows a term that normalised to a result
  abbrev pub if_result : Item → (Term → ℕ → List Entry) → List Entry
  if_result (Mark c) k = Stop c ∷ []
  if_result (Res t m) k = k t m

  -- what follows a result in which the pattern is sought
  unfoldable pub found : Pattern → (List Term → ℕ → List Entry) → List Term → Term → ℕ → List Entry
  found left rest a v n = flat_map (matched rest a n) (matches (shapes_of p.signature) left v)

  -- what follows a term to which the strategy is applied
  unfoldable pub sought : Pattern → Strategy → (List Term → ℕ → List Entry) → List Term → Term → ℕ → List Entry
  sought left s rest a u n = rows_of (strategy s u n) (found left rest a)

  -- the assignments that meet the conditions, in order
  unfoldable pub clauses : List Clause → List Term → ℕ → List Entry
  clauses [] a n = At a n ∷ []
  clauses (If t ∷ cs) a n = if_true (normal t a n) (clauses cs a)
  clauses (Where left s t ∷ cs) a n = if_result (normal t a n) (sought left s (clauses cs) a)

  -- the four kinds together
  abbrev pub level : Meaning
  level = record { normal = normal; clauses = clauses; positions = positions; strategy = strategy }

-- below the lowest level there is nothing, and no step is left there to look at it
abbrev pub nothing : Meaning
nothing = record {
  normal = λ _ _ _. Mark Steps;
  clauses = λ _ _ _. [];
  positions = λ _ _ _ _. [];
  strategy = λ _ _ _. [];
}

module _ (p : Program) where
  -- the meaning in which fewer than this many steps may be taken
  unfoldable pub below : ℕ → Meaning
  below zero = nothing
  below (suc n) = level p (below n)

  -- the meaning for lists that are made with at most n steps left
  abbrev pub within : ℕ → Meaning
  within n = level p (below n)

  -- the answers of a run: the start strategy on the normalised query
  unfoldable pub answers : Strategy → Pattern → ℕ → List Item
  answers start query n = on_results ((within n).normal query [] n ∷ []) ((within n).strategy start)
