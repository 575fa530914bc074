-- When strategies, conditions, rules and programs are valid.
use Rattle.std.specs.Prelude.{◌≡◌, ℕ, Bool, true, false, ◌&&◌, ◌==◌, if◌then◌else◌, nat_lt, Option, Some, None, List, [], ◌∷◌, ◌++◌, length, slice_get}
use Rattle.std.specs.List.{list_all}
use Rattle.std.specs.Option.{option_and_then}
use Rattle.elan_terms.specs.declared.tree.SortId.{SortId}
use Rattle.elan_terms.specs.declared.tree.Pattern.{Pattern}
use Rattle.elan_terms.specs.Match.{is_sort, variables}
use Rattle.elan_program.specs.declared.strategy.Strategy.{Strategy}
use Rattle.elan_program.specs.declared.strategy.StrategyNode.TheOpen.{StrategyNode-F as layer}
use Rattle.elan_program.specs.declared.strategy.Scope.{Scope}
use Rattle.elan_program.specs.declared.strategy.Scope.TheVariants.{Outside, Inside}
use Rattle.elan_program.specs.declared.signature.Operator.{Operator}
use Rattle.elan_program.specs.declared.program.Clause.{Clause}
use Rattle.elan_program.specs.declared.program.Clause.TheVariants.{If, Where}
use Rattle.elan_program.specs.declared.program.Rule.{Rule}
use Rattle.elan_program.specs.declared.program.Named.{Named}
use Rattle.elan_program.specs.declared.program.Parts.{Parts}
use Rattle.elan_program.specs.Signature.{shapes_of}
use Rattle.elan_program.specs.Strategies.{Layer, para_strategy}
use Rattle.elan_program.specs.Soundness.{most, has_sort_id, same_sort, is_some_list, truth_sort, is_sound}
use Rattle.elan_program.specs.Patterns.{pattern_sort, uses, binds}

-- ---- strategies

-- whether numbers ascend, each once
abbrev pub do_ascend : List ℕ → Bool
do_ascend [] = true
do_ascend (m ∷ []) = true
do_ascend (m ∷ n ∷ more) = nat_lt m n && do_ascend (n ∷ more)

-- whether a rule is there and is of this sort
abbrev pub is_rule_for : SortId → Option Rule → Bool
is_rule_for sort None = false
is_rule_for sort (Some r) = same_sort r.sort sort

-- whether these rules are there and are of this sort, and their numbers ascend, each once
abbrev pub is_valid_label : List Rule → SortId → List ℕ → Bool
is_valid_label rules sort numbers =
    do_ascend numbers && list_all (λ k. is_rule_for sort (slice_get rules k)) numbers

-- whether a parameter may stand here: in a body, below the number of the body's parameters, and
-- where the sort that counts is theirs
abbrev pub is_valid_param : Scope → SortId → ℕ → Bool
is_valid_param Outside sort number = false
is_valid_param (Inside count own) sort number = nat_lt number count && same_sort own sort

-- whether a named strategy is there, is for this sort, and has so many parameters
abbrev pub is_named_for : SortId → ℕ → Option Named → Bool
is_named_for sort count None = false
is_named_for sort count (Some n) = same_sort n.sort sort && n.parameters == count

-- the sorts of the arguments of an operator that is there and is not associative and commutative
abbrev pub congruent_sorts : Option Operator → Option (List SortId)
congruent_sorts None = None
congruent_sorts (Some o) = if o.ac then None else Some o.args

-- whether there are as many sorts, and each of these is valid at the sort of its place
abbrev pub each_fits : {A : Type 0} → (A → SortId → Bool) → List A → List SortId → Bool
each_fits valid [] [] = true
each_fits valid (s ∷ ss) (sort ∷ sorts) = valid s sort && each_fits valid ss sorts
each_fits valid _ _ = false

-- A congruence has a strategy for each argument of its operator, at least one, valid at the
-- argument's sort.
abbrev pub congruence_fits :
    {A : Type 0} → (A → SortId → Bool) → List A → Option (List SortId) → Bool
congruence_fits valid ss None = false
congruence_fits valid ss (Some sorts) = is_some_list ss && each_fits valid ss sorts

module _ (p : Parts) (scope : Scope) where
  -- What is valid at a sort, where each strategy inside says at which sorts it is valid.
  -- The rules of a label are there and are of the sort, and their numbers ascend, each once. A called
  -- strategy is there, is for the sort, and has an actual for each parameter, valid at the sort.
  -- `normalise` looks for the sort. A congruence is of an operator that is not associative and
  -- commutative, and its strategies are valid at the sorts of the arguments. All other strategies
  -- inside are valid at the sort itself.
  abbrev pub is_valid_layer : Layer (Strategy × (SortId → Bool)) → SortId → Bool
  is_valid_layer layer.Id sort = true
  is_valid_layer layer.Fail sort = true
  is_valid_layer (layer.Label numbers) sort = is_valid_label p.rules sort numbers
  is_valid_layer (layer.Call number ss) sort =
      is_named_for sort (length ss) (slice_get p.named number) && list_all (λ s. s.1 sort) ss
  is_valid_layer (layer.Param number) sort = is_valid_param scope sort number
  is_valid_layer (layer.Seq ss) sort = list_all (λ s. s.1 sort) ss
  is_valid_layer (layer.All ss) sort = list_all (λ s. s.1 sort) ss
  is_valid_layer (layer.First one ss) sort = list_all (λ s. s.1 sort) ss
  is_valid_layer (layer.Repeat s) sort = s.1 sort
  is_valid_layer (layer.Iterate s) sort = s.1 sort
  is_valid_layer (layer.IteratePlus s) sort = s.1 sort
  is_valid_layer (layer.Normalise place s) sort = same_sort place sort && s.1 sort
  is_valid_layer (layer.Cong op ss) sort =
      congruence_fits (λ s. s.1) ss (congruent_sorts (slice_get p.signature.operators op.0))

  -- whether a strategy is valid at a sort
  unfoldable pub is_valid_strategy : Strategy → SortId → Bool
  is_valid_strategy = para_strategy is_valid_layer

-- ---- conditions

-- whether a pattern that has this sort, or none, is a truth value
abbrev pub is_truth : Option SortId → Option SortId → Bool
is_truth None found = false
is_truth (Some sort) found = is_sort found sort

-- whether two patterns are of one sort, at which a strategy is valid
abbrev pub are_joined : Parts → Option SortId → Option SortId → Strategy → Bool
are_joined p None of by = false
are_joined p (Some sort) of by = is_sort of sort && is_valid_strategy p Outside by sort

-- these variables, where a test passed
abbrev pub where_true : Bool → List (ℕ × SortId) → Option (List (ℕ × SortId))
where_true true bound = Some bound
where_true false bound = None

-- an `if` asks for a truth value, and uses bound variables
unfoldable pub is_valid_if : Parts → List (ℕ × SortId) → Pattern → Bool
is_valid_if p bound test =
    uses bound test && is_truth (truth_sort p.signature.truth) (pattern_sort (shapes_of p.signature) test)

-- A `where` uses bound variables in the term that it starts from, and its left side binds fresh ones. Both are of one
-- sort, at which its strategy is valid.
unfoldable pub is_valid_where : Parts → List (ℕ × SortId) → Pattern → Strategy → Pattern → Bool
is_valid_where p bound left by of =
    (uses bound of && binds (length p.signature.sorts) (length bound) left)
    && are_joined p (pattern_sort (shapes_of p.signature) left) (pattern_sort (shapes_of p.signature) of) by

-- the variables that are bound after a condition, where it is valid
abbrev pub bound_after : Parts → List (ℕ × SortId) → Clause → Option (List (ℕ × SortId))
bound_after p bound (If test) = where_true (is_valid_if p bound test) bound
bound_after p bound (Where left by of) = where_true (is_valid_where p bound left by of) (bound ++ variables left)

-- the variables that are bound after all of these conditions, where they are valid
abbrev pub bound_by : Parts → List (ℕ × SortId) → List Clause → Option (List (ℕ × SortId))
bound_by p bound [] = Some bound
bound_by p bound (clause ∷ clauses) = option_and_then (λ more. bound_by p more clauses) (bound_after p bound clause)

-- ---- rules and programs

-- whether a right side uses variables that its rule has bound, of which there are fewer than 4,294,967,296
abbrev pub is_bound_right : Pattern → Option (List (ℕ × SortId)) → Bool
is_bound_right right None = false
is_bound_right right (Some bound) = uses bound right && nat_lt (length bound) most

-- whether the sort of a rule is there, and is the sort of its two sides
abbrev pub has_sides : Parts → Rule → Bool
has_sides p r =
    (has_sort_id p.signature r.sort && is_sort (pattern_sort (shapes_of p.signature) r.left) r.sort)
    && is_sort (pattern_sort (shapes_of p.signature) r.right) r.sort

-- The two sides of a rule are of its sort. Its left side binds variables, its conditions bind more, and its right side
-- uses them.
unfoldable pub is_valid_rule : Parts → Rule → Bool
is_valid_rule p r =
    has_sides p r
    && (binds (length p.signature.sorts) 0 r.left && is_bound_right r.right (bound_by p (variables r.left) r.clauses))

-- the body of a named strategy is valid at its sort, with its parameters
unfoldable pub is_valid_named : Parts → Named → Bool
is_valid_named p n =
    has_sort_id p.signature n.sort && is_valid_strategy p (Inside n.parameters n.sort) n.body n.sort

-- The signature is sound, there are fewer than 4,294,967,296 rules and named strategies, and each of them is valid.
unfoldable pub is_valid : Parts → Bool
is_valid p =
    (is_sound p.signature && (nat_lt (length p.rules) most && nat_lt (length p.named) most))
    && (list_all (is_valid_rule p) p.rules && list_all (is_valid_named p) p.named)

-- the parts make a program
abbrev pub IsValid : Parts → Type 0
IsValid p = is_valid p ≡ true
