-- How nested nodes are written from left to right: what stands before, between and behind two arguments.
use Rattle.std.specs.Prelude.{ℕ, zero, suc, length, ◌||◌, Bool, if◌then◌else◌, Option, Some, List, [], ◌∷◌, ◌++◌}
use Rattle.std.specs.List.{flat_map}
use Rattle.elan_terms.specs.declared.tree.Term.{Term}
use Rattle.elan_program.specs.declared.signature.Piece.{Piece}
use Rattle.elan_program.specs.declared.signature.Piece.TheVariants.{Hole, Word}
use Rattle.elan_program.specs.declared.signature.Assoc.{Assoc}
use Rattle.elan_program.specs.declared.signature.Assoc.TheVariants as assoc
use Rattle.elan_program.specs.declared.signature.Operator.{Operator}
use Rattle.elan_program.specs.declared.signature.Signature.{Signature}
use Rattle.elan_reading.specs.declared.edge.Position.TheVariants.{Later}
use Rattle.elan_reading.specs.declared.edge.Side.{Side}
use Rattle.elan_reading.specs.declared.edge.Side.TheVariants.{Left, Inner}
use Rattle.elan_reading.specs.Edge.{counted, side_of, own_tie, tie_of}
use Rattle.elan_print.specs.Tokens.{Printed, spelled, space_unless, is_tight_before, is_tight_after, bytes_of}
use Rattle.elan_print.specs.Terms.{Shown, argument, applied, shown_of}

-- ---- pages

-- a text so far, and whether no space may stand before the next token
pub record Sheet : Type 0 where
  pub text : List ℕ
  pub tight : Bool

-- a token more
abbrev pub put : Sheet → Printed → Sheet
put s p = record { text = s.text ++ (space_unless (s.tight || is_tight_before p) ++ bytes_of p); tight = is_tight_after p }

-- more tokens
abbrev pub put_all : Sheet → List Printed → Sheet
put_all s [] = s
put_all s (p ∷ ps) = put_all (put s p) ps

-- ---- pieces

-- the words before the first hole
abbrev pub before : List Piece → List Printed
before [] = []
before (Hole ∷ ps) = []
before (Word name ∷ ps) = spelled name.bytes ∷ before ps

-- the pieces behind the first hole
abbrev pub behind : List Piece → List Piece
behind [] = []
behind (Hole ∷ ps) = ps
behind (Word name ∷ ps) = behind ps

-- the side of the first hole of a spelling that has another hole
abbrev pub first_side : List Piece → Side
first_side [] = Inner
first_side (Hole ∷ ps) = Left
first_side (Word name ∷ ps) = Inner

-- the side of the second hole of a spelling
abbrev pub second_side : List Piece → Side
second_side ps = side_of Later (behind (behind ps))

-- what stands between two arguments
abbrev pub between : Operator → List Printed
between o = before (behind o.pieces)

-- what stands behind the second argument
abbrev pub after : Operator → List Printed
after o = before (behind (behind o.pieces))

-- the first argument
abbrev pub first_of : Operator → Shown → List Printed
first_of o a = argument o (first_side o.pieces) a

-- the second argument
abbrev pub second_of : Operator → Shown → List Printed
second_of o a = argument o (second_side o.pieces) a

-- ---- nodes

-- an argument behind those that are nested to the left
abbrev pub closed : Operator → Shown → List Printed
closed o a = between o ++ (second_of o a ++ after o)

-- these tokens so many times
abbrev pub repeated : List Printed → ℕ → List Printed
repeated ps zero = []
repeated ps (suc n) = ps ++ repeated ps n

-- nodes nested to the left
abbrev pub left_tokens : Operator → Shown → List Shown → List Printed
left_tokens o a below = repeated (before o.pieces) (length below) ++ (first_of o a ++ flat_map (closed o) below)

-- an argument before those that are nested to the right
abbrev pub opened : Operator → Shown → List Printed
opened o a = before o.pieces ++ (first_of o a ++ between o)

-- nodes nested to the right, without what closes them
abbrev pub right_opened : Operator → Shown → List Shown → List Printed
right_opened o a [] = second_of o a
right_opened o a (b ∷ below) = opened o a ++ right_opened o b below

-- nodes nested to the right
abbrev pub right_tokens : Operator → Shown → List Shown → List Printed
right_tokens o a below = right_opened o a below ++ repeated (after o) (length below)

-- nodes nested to one side
abbrev pub side_tokens : Assoc → Operator → Shown → List Shown → List Printed
side_tokens assoc.Right o a below = right_tokens o a below
side_tokens assoc.Left o a below = left_tokens o a below
side_tokens assoc.No o a below = left_tokens o a below

-- an application: an associative and commutative operator over two or more is nested
abbrev pub applied_tokens : Operator → List Shown → List Printed
applied_tokens o (a ∷ b ∷ below) = if o.ac then side_tokens (counted o) o a (b ∷ below) else applied (Some o) (a ∷ b ∷ below)
applied_tokens o below = applied (Some o) below

-- ---- ties

-- the priority that decides where a term may stand ungrouped
unfoldable pub tie_in : Signature → Term → Option ℕ
tie_in g t = let a = shown_of g t in tie_of a.first

-- the same of an injection over these arguments
abbrev pub tie_inside : Signature → Operator → List Term → Option ℕ
tie_inside g o [] = own_tie o
tie_inside g o (t ∷ ts) = tie_in g t
