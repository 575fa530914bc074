-- The tokens of a term.
use Rattle.std.specs.Prelude.{ℕ, ℤ, if◌then◌else◌, Option, Some, None, List, [], ◌∷◌, ◌++◌, map, slice_get}
use Rattle.elan_terms.specs.declared.tree.OpId.{OpId}
use Rattle.elan_terms.specs.declared.tree.Term.{Term}
use Rattle.elan_terms.specs.Trees.{fold_term, int_term, app_term}
use Rattle.elan_program.specs.declared.signature.Piece.{Piece}
use Rattle.elan_program.specs.declared.signature.Piece.TheVariants.{Hole, Word}
use Rattle.elan_program.specs.declared.signature.Assoc.{Assoc}
use Rattle.elan_program.specs.declared.signature.Assoc.TheVariants as assoc
use Rattle.elan_program.specs.declared.signature.Operator.{Operator}
use Rattle.elan_program.specs.declared.signature.Signature.{Signature}
use Rattle.elan_reading.specs.declared.edge.Position.{Position}
use Rattle.elan_reading.specs.declared.edge.Position.TheVariants.{First, Later}
use Rattle.elan_reading.specs.declared.edge.Side.{Side}
use Rattle.elan_reading.specs.Edge.{is_injection, counted, side_of, tie_of, fits}
use Rattle.elan_reading.specs.Readings.{passed}
use Rattle.elan_print.specs.Tokens.{Printed, spelled, opening, closing, integer, text_of}

-- ---- nodes of more than two arguments

-- an operator over a term and the next one, over that and the one after it, and so on: nested to the left
abbrev pub to_left : OpId → Term → List Term → Term
to_left op t [] = t
to_left op t (u ∷ us) = to_left op (app_term op (t ∷ u ∷ [])) us

-- an operator over a term and all that follow: nested to the right
abbrev pub to_right : OpId → Term → List Term → Term
to_right op t [] = t
to_right op t (u ∷ us) = app_term op (t ∷ to_right op u us ∷ [])

-- to the right for `assocRight`, and else to the left
abbrev pub to_side : Assoc → OpId → Term → List Term → Term
to_side assoc.Right op t us = to_right op t us
to_side assoc.Left op t us = to_left op t us
to_side assoc.No op t us = to_left op t us

-- an associative and commutative operator over two or more as nested nodes of two, and each other node as it is
abbrev pub nested_by : Option Operator → OpId → List Term → Term
nested_by (Some o) op (t ∷ u ∷ us) = if o.ac then to_side (counted o) op t (u ∷ us) else app_term op (t ∷ u ∷ us)
nested_by _ op ts = app_term op ts

-- a term with all its nodes nested
unfoldable pub nested : Signature → Term → Term
nested g = fold_term int_term (λ op ts. nested_by (slice_get g.operators op.0) op ts)

-- ---- arguments in a spelling

-- the tokens of a term, and the operator of its first node that is no injection
pub record Shown : Type 0 where
  pub tokens : List Printed
  pub first : Option Operator

-- an argument on a side of an operator: between grouping parentheses where the edge rule would refuse it ungrouped
abbrev pub argument : Operator → Side → Shown → List Printed
argument o side a = if fits o side (tie_of a.first) then a.tokens else opening ∷ a.tokens ++ closing ∷ []

-- The tokens of the pieces that are left of a spelling, with the arguments in its holes; a valid term has one for each.
abbrev pub filled : Operator → Position → List Piece → List Shown → List Printed
filled o position [] below = []
filled o position (Word name ∷ ps) below = spelled name.bytes ∷ filled o Later ps below
filled o position (Hole ∷ ps) [] = filled o Later ps []
filled o position (Hole ∷ ps) (a ∷ below) = argument o (side_of position ps) a ++ filled o Later ps below

-- the argument of an injection
abbrev pub inside : List Shown → List Printed
inside [] = []
inside (a ∷ below) = a.tokens

-- an injection is printed as its argument, and each other operator by its spelling
abbrev pub applied : Option Operator → List Shown → List Printed
applied None below = []
applied (Some o) below = if is_injection o then inside below else filled o First o.pieces below

-- ---- terms

-- an application of an operator
abbrev pub shown_app : Signature → OpId → List Shown → Shown
shown_app g op below = record {
  tokens = applied (slice_get g.operators op.0) below;
  first = passed g (slice_get g.operators op.0) (map (λ a. a.first) below);
}

-- an integer
abbrev pub shown_int : ℤ → Shown
shown_int z = record { tokens = integer z; first = None }

-- a term as it is
unfoldable pub shown : Signature → Term → Shown
shown g = fold_term shown_int (shown_app g)

-- a term with its nodes nested
unfoldable pub shown_of : Signature → Term → Shown
shown_of g t = shown g (nested g t)

-- the tokens of a printed term
unfoldable pub term_tokens : Signature → Term → List Printed
term_tokens g t = let a = shown_of g t in a.tokens

-- the text of a printed term
unfoldable pub term_text : Signature → Term → List ℕ
term_text g t = text_of (term_tokens g t)
