-- Where an argument at an edge of a spelling needs no parentheses.
use Rattle.std.specs.Prelude.{ℕ, Bool, true, false, ◌&&◌, ◌||◌, ◌==◌, if◌then◌else◌, nat_lt, Option, Some, None, List, [], ◌∷◌}
use Rattle.elan_program.specs.declared.signature.Piece.{Piece}
use Rattle.elan_program.specs.declared.signature.Piece.TheVariants.{Hole, Word}
use Rattle.elan_program.specs.declared.signature.Assoc.{Assoc}
use Rattle.elan_program.specs.declared.signature.Assoc.TheVariants as assoc
use Rattle.elan_program.specs.declared.signature.Operator.{Operator}
use Rattle.elan_reading.specs.declared.edge.Position.{Position}
use Rattle.elan_reading.specs.declared.edge.Position.TheVariants.{First, Later}
use Rattle.elan_reading.specs.declared.edge.Side.{Side}
use Rattle.elan_reading.specs.declared.edge.Side.TheVariants.{Left, Inner, Right}

-- ---- pieces

-- whether a piece is the place of an argument
abbrev pub is_hole : Piece → Bool
is_hole Hole = true
is_hole (Word name) = false

-- whether there is one piece, and it is a hole
abbrev pub is_one_hole : List Piece → Bool
is_one_hole (p ∷ []) = is_hole p
is_one_hole _ = false

-- whether the spelling is one hole
abbrev pub is_injection : Operator → Bool
is_injection o = is_one_hole o.pieces

-- whether the last of these pieces is a hole
abbrev pub ends_open : Piece → List Piece → Bool
ends_open p [] = is_hole p
ends_open p (q ∷ ps) = ends_open q ps

-- whether there is more than one piece, and the first or the last is a hole
abbrev pub are_open : List Piece → Bool
are_open (p ∷ q ∷ ps) = is_hole p || ends_open q ps
are_open _ = false

-- an open operator has a spelling of more than one piece that begins or ends with a hole
abbrev pub is_open : Operator → Bool
is_open o = are_open o.pieces

-- ---- associativity

-- `assocLeft`, where the operator is associative and commutative
abbrev pub left_if : Bool → Assoc
left_if true = assoc.Left
left_if false = assoc.No

-- an associativity, which is `assocLeft` where there is none and the operator is associative and commutative
abbrev pub counted_as : Bool → Assoc → Assoc
counted_as ac assoc.No = left_if ac
counted_as ac assoc.Left = assoc.Left
counted_as ac assoc.Right = assoc.Right

-- the associativity that counts
abbrev pub counted : Operator → Assoc
counted o = counted_as o.ac o.assoc

-- ---- the edge rule

-- The side of a hole with these pieces behind it: left where it is the first piece, right where it is the last.
abbrev pub side_of : Position → List Piece → Side
side_of First ps = Left
side_of Later [] = Right
side_of Later (p ∷ ps) = Inner

-- an operator of equal priority may stand in the first hole of `assocLeft`, and in the last of `assocRight`
abbrev pub goes_on : Assoc → Side → Bool
goes_on assoc.Left Left = true
goes_on assoc.Right Right = true
goes_on _ _ = false

-- the priority of an open operator; none for one that is not open
abbrev pub own_tie : Operator → Option ℕ
own_tie o = if is_open o then Some o.pri else None

-- the same of the operator of a first node; none for a variable and an integer, which have no operator
abbrev pub tie_of : Option Operator → Option ℕ
tie_of None = None
tie_of (Some o) = own_tie o

-- an open operator may stand at an edge where its priority is the greater, or where it is the same and the operators may
-- follow one another on this side
abbrev pub fits_at_edge : Operator → Side → ℕ → Bool
fits_at_edge outer side pri = nat_lt outer.pri pri || (pri == outer.pri && goes_on (counted outer) side)

-- An argument that is not grouped may stand in every hole where its first node has no priority, in every hole that is
-- neither the first piece nor the last, and at the two edges where its priority allows it.
abbrev pub fits : Operator → Side → Option ℕ → Bool
fits outer side None = true
fits outer Inner (Some pri) = true
fits outer Left (Some pri) = fits_at_edge outer Left pri
fits outer Right (Some pri) = fits_at_edge outer Right pri
