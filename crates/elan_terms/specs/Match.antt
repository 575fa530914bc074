-- Parts, assignments and matches.
use Rattle.std.specs.Prelude.{ℕ, pos, Bool, true, false, if◌then◌else◌, ◌==◌, nat_lt, Option, Some, None, List, [], ◌∷◌, ◌++◌, length, map}
use Rattle.std.specs.Ordering.{int_eq}
use Rattle.std.specs.List.{filter, flat_map, list_any}
use Rattle.elan_terms.specs.declared.tree.OpId.{OpId}
use Rattle.elan_terms.specs.declared.tree.SortId.{SortId}
use Rattle.elan_terms.specs.declared.tree.Term.{Term}
use Rattle.elan_terms.specs.declared.tree.TermNode as term
use Rattle.elan_terms.specs.declared.tree.Pattern.{Pattern}
use Rattle.elan_terms.specs.declared.tree.PatternNode as pattern
use Rattle.elan_terms.specs.declared.tree.Shapes.{Shapes}
use Rattle.elan_terms.specs.Trees.{para_term, fold_pattern, int_term, app_term}
use Rattle.elan_terms.specs.Term.{same, is_ac, node, ascending, sort_of}

-- ---- parts

-- the lists that are left where items are struck out
abbrev pub sublists : {X : Type 0} → List X → List (List X)
sublists [] = [] ∷ []
sublists (x ∷ xs) = map (λ ys. x ∷ ys) (sublists xs) ++ sublists xs

-- the node itself, and for an AC operator each node of at least two of its arguments
unfoldable pub pieces_at : Shapes → OpId → List Term → List Term
pieces_at shapes op ts = if is_ac shapes op then map (app_term op) (filter (λ us. nat_lt 1 (length us)) (sublists ts)) else app_term op ts ∷ []

-- the node and what its arguments have, in no order and with repetitions
unfoldable pub pieces : Shapes → Term → List Term
pieces shapes = para_term (λ z. int_term z ∷ []) (λ op args. pieces_at shapes op (map (λ a. a.0) args) ++ flat_map (λ a. a.1) args)

-- each once, in a list that ascends
abbrev pub once : List Term → List Term
once [] = []
once (t ∷ ts) = if list_any (same t) ts then once ts else t ∷ once ts

-- the parts of a canonical term: what it is made of, ascending, each once
unfoldable pub parts : Shapes → Term → List Term
parts shapes t = once (ascending (pieces shapes t))

-- ---- the variables of a pattern, each a number with a sort

-- a variable put behind those that were seen, unless it is among them
abbrev pub noted : List (ℕ × SortId) → ℕ × SortId → List (ℕ × SortId)
noted seen v = if list_any (λ w. w.0 == v.0) seen then seen else seen ++ v ∷ []

-- the same for each of a list
abbrev pub new_in : List (ℕ × SortId) → List (ℕ × SortId) → List (ℕ × SortId)
new_in seen [] = seen
new_in seen (v ∷ vs) = new_in (noted seen v) vs

-- every place of a variable, from left to right
unfoldable pub occurrences : Pattern → List (ℕ × SortId)
occurrences = fold_pattern (λ x s. (x, s) ∷ []) (λ _. []) (λ _ vss. flat_map (λ vs. vs) vss)

-- the variables with their sorts, in order of first occurrence
unfoldable pub variables : Pattern → List (ℕ × SortId)
variables p = new_in [] (occurrences p)

-- ---- assignments

-- whether a sort is there and is this one
abbrev pub is_sort : Option SortId → SortId → Bool
is_sort None s = false
is_sort (Some s') s = s'.0 == s.0

-- whether a term has this sort
unfoldable pub has_sort : Shapes → SortId → Term → Bool
has_sort shapes s t = is_sort (sort_of shapes t) s

-- these lists, each with the term before it
unfoldable pub prefixed : List (List Term) → Term → List (List Term)
prefixed lists t = map (λ ts. t ∷ ts) lists

-- each list that gives each variable one of the parts of its sort, lexicographically
abbrev pub choices : Shapes → List Term → List (ℕ × SortId) → List (List Term)
choices shapes all [] = [] ∷ []
choices shapes all (v ∷ vs) = flat_map (prefixed (choices shapes all vs)) (filter (has_sort shapes v.1) all)

-- the lists that give each variable of a pattern a part of a term
unfoldable pub assignments : Shapes → Pattern → Term → List (List Term)
assignments shapes p t = choices shapes (parts shapes t) (variables p)

-- the term that stands for a variable; the integer 0 where there is none
abbrev pub bound : List (ℕ × SortId) → List Term → ℕ → Term
bound [] ts x = int_term (pos 0)
bound (v ∷ vs) [] x = int_term (pos 0)
bound (v ∷ vs) (t ∷ ts) x = if v.0 == x then t else bound vs ts x

-- the canonical form of a pattern under an assignment
unfoldable pub instance : Shapes → (ℕ → Term) → Pattern → Term
instance shapes value = fold_pattern (λ x _. value x) int_term (node shapes)

-- ---- matches

-- whether a pattern is the term, up to canonical form, under values for these variables
unfoldable pub fits : Shapes → List (ℕ × SortId) → Pattern → Term → List Term → Bool
fits shapes vs p t a = same (instance shapes (bound vs a) p) t

-- whether the two may have one head: the variable has any, and an operator stays where arguments are flattened
abbrev pub heads_agree : pattern.PatternNode → term.TermNode → Bool
heads_agree (pattern.Var x s) n = true
heads_agree (pattern.Int z) (term.Int y) = int_eq z y
heads_agree (pattern.Int z) (term.App' op shape row) = false
heads_agree (pattern.App' op shape row) (term.Int y) = false
heads_agree (pattern.App' op shape row) (term.App' f shape' row') = op.0 == f.0

-- the same of a pattern and a term
unfoldable pub may_fit : Pattern → Term → Bool
may_fit p t = heads_agree p.node t.node

-- the assignments under which the pattern is the term
unfoldable pub matches : Shapes → Pattern → Term → List (List Term)
matches shapes p t = filter (fits shapes (variables p) p t) (assignments shapes p t)
