-- Examples, computed from the definitions.
use Rattle.std.proofs.Common.{◌≡◌, refl, ℕ, zero, suc, List, [], ◌∷◌, true, false}
use Rattle.std.specs.Prelude.{None}
use denote.Hole.Carrier.{hidden}
use Rattle.elan_terms.specs.declared.tree.OpId.{OpId}
use Rattle.elan_terms.specs.declared.tree.SortId.{SortId}
use Rattle.elan_terms.specs.declared.tree.Shape.{Shape}
use Rattle.elan_terms.specs.declared.tree.Shapes.{Shapes}
use Rattle.elan_terms.specs.declared.tree.Term.{Term}
use Rattle.elan_terms.specs.declared.tree.TermNode.TheBlock.{shape-the_row-Term-0, hidden-the_row-Term-0}
use Rattle.elan_terms.specs.declared.tree.Pattern.{Pattern}
use Rattle.elan_terms.specs.declared.tree.PatternNode as pattern
use Rattle.elan_terms.specs.declared.tree.PatternNode.TheBlock.{shape-the_row-Pattern-0, hidden-the_row-Pattern-0}
use Rattle.elan_terms.specs.Trees.{app_term}
use Rattle.elan_terms.specs.Term.{order, node, is_ac, sort_of}
use Rattle.elan_terms.specs.Match.{pieces, pieces_at, parts, occurrences, variables, has_sort, prefixed, assignments, instance, fits, matches, may_fit}
use Rattle.elan_arms.specs.Arms.{app_pattern, taken_apart, arms, times_brought, many_brought}
use Rattle.elan_arms.proofs.Agreement.{instance-alike}

-- the one sort
abbrev s : SortId
s = record { 0 = 0 }

-- the operator of this number
abbrev op : ℕ → OpId
op n = record { 0 = n }

-- an operator without arguments
abbrev constant : Shape
constant = record { args = []; sort = s; ac = false }

-- a, b, c, U and f
abbrev sets : Shapes
sets = record { shapes = constant ∷ constant ∷ constant ∷ record { args = s ∷ s ∷ []; sort = s; ac = true } ∷ record { args = s ∷ []; sort = s; ac = false } ∷ []; int = None }

abbrev a : Term
a = app_term (op 0) []

abbrev b : Term
b = app_term (op 1) []

abbrev c : Term
c = app_term (op 2) []

-- `U` over these arguments
abbrev U : List Term → Term
U ts = app_term (op 3) ts

abbrev f : Term → Term
f t = app_term (op 4) (t ∷ [])

-- the variable of this number
abbrev var : ℕ → Pattern
var n = record { node = pattern.Var n s }

-- `U` over these patterns
abbrev U_of : List Pattern → Pattern
U_of ps = app_pattern (op 3) ps

abbrev a_of : Pattern
a_of = app_pattern (op 0) []

abbrev f_of : Pattern → Pattern
f_of p = app_pattern (op 4) (p ∷ [])

-- a U c for X, b for every other variable
abbrev given : ℕ → Term
given zero = U (a ∷ c ∷ [])
given (suc n) = b

-- X U a U Y is a U a U b U c
filled_in : instance sets given (U_of (var 0 ∷ a_of ∷ var 1 ∷ [])) ≡ U (a ∷ a ∷ b ∷ c ∷ [])
unfolding instance node is_ac order shape-the_row-Term-0 hidden-the_row-Term-0 shape-the_row-Pattern-0 hidden-the_row-Pattern-0 hidden
filled_in = refl

-- X and a bring a twice, Y does not
a_twice : times_brought sets given (op 3) a (var 0 ∷ a_of ∷ var 1 ∷ []) ≡ 2
unfolding instance node is_ac order shape-the_row-Term-0 hidden-the_row-Term-0 shape-the_row-Pattern-0 hidden-the_row-Pattern-0 hidden
a_twice = refl

-- X brings two terms, the others one
four_brought : many_brought sets given (op 3) (var 0 ∷ a_of ∷ var 1 ∷ []) ≡ 4
unfolding instance node is_ac order shape-the_row-Term-0 hidden-the_row-Term-0 shape-the_row-Pattern-0 hidden-the_row-Pattern-0 hidden
four_brought = refl

-- X U (a U (Y U X)) has four patterns
four_patterns : taken_apart (op 3) (var 0 ∷ U_of (a_of ∷ U_of (var 1 ∷ var 0 ∷ []) ∷ []) ∷ []) ≡ var 0 ∷ a_of ∷ var 1 ∷ var 0 ∷ []
unfolding shape-the_row-Pattern-0 hidden-the_row-Pattern-0 hidden
four_patterns = refl

-- f(X U a) brings one term under U
one_brought : arms sets given (op 3) (f_of (U_of (var 0 ∷ a_of ∷ []))) ≡ f (U (a ∷ a ∷ c ∷ [])) ∷ []
unfolding instance node is_ac order shape-the_row-Term-0 hidden-the_row-Term-0 shape-the_row-Pattern-0 hidden-the_row-Pattern-0 hidden
one_brought = refl

-- f(X) is no c: the heads differ
heads_differ : may_fit (f_of (var 0)) c ≡ false
unfolding may_fit shape-the_row-Term-0 hidden-the_row-Term-0 shape-the_row-Pattern-0 hidden-the_row-Pattern-0 hidden
heads_differ = refl

-- another way to give values: c for Z
abbrev other : ℕ → Term
other zero = U (a ∷ c ∷ [])
other (suc zero) = b
other (suc (suc n)) = c

-- what Z has does not count in X U Y
only_two : instance sets given (U_of (var 0 ∷ var 1 ∷ [])) ≡ instance sets other (U_of (var 0 ∷ var 1 ∷ []))
unfolding occurrences shape-the_row-Pattern-0 hidden-the_row-Pattern-0 hidden
only_two = instance-alike sets given other (U_of (var 0 ∷ var 1 ∷ [])) (refl, (refl, tt))

-- X U X is a U a U b U b with one value alone, a U b
one_match : matches sets (U_of (var 0 ∷ var 0 ∷ [])) (U (a ∷ a ∷ b ∷ b ∷ [])) ≡ (U (a ∷ b ∷ []) ∷ []) ∷ []
unfolding matches fits assignments has_sort prefixed instance parts pieces pieces_at variables occurrences node is_ac sort_of order shape-the_row-Term-0 hidden-the_row-Term-0 shape-the_row-Pattern-0 hidden-the_row-Pattern-0 hidden
one_match = refl

-- U over a alone for X: it is not valid
abbrev alone : ℕ → Term
alone zero = U (a ∷ [])
alone (suc n) = b

-- with it X U Y is a U b
still_made : instance sets alone (U_of (var 0 ∷ var 1 ∷ [])) ≡ U (a ∷ b ∷ [])
unfolding instance node is_ac order shape-the_row-Term-0 hidden-the_row-Term-0 shape-the_row-Pattern-0 hidden-the_row-Pattern-0 hidden
still_made = refl

-- but it is none of the parts of that: values must be valid, not only canonical
three_parts : parts sets (U (a ∷ b ∷ [])) ≡ a ∷ b ∷ U (a ∷ b ∷ []) ∷ []
unfolding parts pieces pieces_at is_ac order shape-the_row-Term-0 hidden-the_row-Term-0 hidden
three_parts = refl
