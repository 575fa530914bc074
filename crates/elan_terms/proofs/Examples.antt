-- Examples, computed from the definitions.
use Rattle.std.proofs.Common.{◌≡◌, refl, ℕ, List, [], ◌∷◌, true, false}
use Rattle.std.specs.Prelude.{None}
use denote.Hole.Carrier.{hidden}
use Rattle.elan_terms.specs.declared.tree.OpId.{OpId}
use Rattle.elan_terms.specs.declared.tree.SortId.{SortId}
use Rattle.elan_terms.specs.declared.tree.Shape.{Shape}
use Rattle.elan_terms.specs.declared.tree.Shapes.{Shapes}
use Rattle.elan_terms.specs.declared.tree.Term.{Term}
use Rattle.elan_terms.specs.declared.tree.TermNode.TheBlock.{shape-the_row-Term-0, hidden-the_row-Term-0}
use Rattle.elan_terms.specs.declared.tree.Pattern.{Pattern}
use Rattle.elan_terms.specs.declared.tree.PatternNode as pattern
use Rattle.elan_terms.specs.declared.tree.PatternNode.TheBlock.{shape-the_row-Pattern-0, hidden-the_row-Pattern-0}
use Rattle.elan_terms.specs.Trees.{app_term}
use Rattle.elan_terms.specs.Term.{order, canon, node, is_ac, sort_of}
use Rattle.elan_terms.specs.Match.{pieces, pieces_at, parts, occurrences, variables, has_sort, prefixed, assignments, instance, fits, matches}

-- the one sort
abbrev s : SortId
s = record { 0 = 0 }

-- the operator of this number
abbrev op : ℕ → OpId
op n = record { 0 = n }

-- an operator without arguments
abbrev constant : Shape
constant = record { args = []; sort = s; ac = false }

-- a, b, c and U
abbrev sets : Shapes
sets = record { shapes = constant ∷ constant ∷ constant ∷ record { args = s ∷ s ∷ []; sort = s; ac = true } ∷ []; int = None }

abbrev a : Term
a = app_term (op 0) []

abbrev b : Term
b = app_term (op 1) []

abbrev c : Term
c = app_term (op 2) []

-- `U` over these arguments
abbrev U : List Term → Term
U ts = app_term (op 3) ts

-- the variable of this number
abbrev var : ℕ → Pattern
var n = record { node = pattern.Var n s }

-- `U` over two variables
abbrev pair : ℕ → ℕ → Pattern
pair x y = record { node = pattern.App (op 3) (var x ∷ var y ∷ []) }

-- X U Y in a U b U c: each way to part the three constants in two
two_parts : matches sets (pair 0 1) (U (a ∷ b ∷ c ∷ []))
    ≡ (a ∷ U (b ∷ c ∷ []) ∷ []) ∷ (b ∷ U (a ∷ c ∷ []) ∷ []) ∷ (c ∷ U (a ∷ b ∷ []) ∷ [])
    ∷ (U (a ∷ b ∷ []) ∷ c ∷ []) ∷ (U (a ∷ c ∷ []) ∷ b ∷ []) ∷ (U (b ∷ c ∷ []) ∷ a ∷ []) ∷ []
unfolding matches fits assignments has_sort prefixed instance parts pieces pieces_at variables occurrences node is_ac sort_of order shape-the_row-Term-0 hidden-the_row-Term-0 shape-the_row-Pattern-0 hidden-the_row-Pattern-0 hidden
two_parts = refl

-- X U X in a U a U b U b: each half is a U b
equal_halves : matches sets (pair 0 0) (U (a ∷ a ∷ b ∷ b ∷ [])) ≡ (U (a ∷ b ∷ []) ∷ []) ∷ []
unfolding matches fits assignments has_sort prefixed instance parts pieces pieces_at variables occurrences node is_ac sort_of order shape-the_row-Term-0 hidden-the_row-Term-0 shape-the_row-Pattern-0 hidden-the_row-Pattern-0 hidden
equal_halves = refl

-- (c U a) U b in canonical form
flattened : canon sets (U (U (c ∷ a ∷ []) ∷ b ∷ [])) ≡ U (a ∷ b ∷ c ∷ [])
unfolding canon node is_ac order shape-the_row-Term-0 hidden-the_row-Term-0 hidden
flattened = refl
