-- The pieces of a spelling, by their places.
use Rattle.std.specs.Prelude.{ℕ, zero, suc, ◌-◌, Bool, false, ◌&&◌, ◌||◌, ◌==◌, if◌then◌else◌, nat_lt, Option, Some, None, length, slice_get}
use Rattle.std.specs.Str.{bytes_eq}
use Rattle.elan_terms.specs.declared.tree.SortId.{SortId}
use Rattle.elan_terms.specs.Match.{is_sort}
use Rattle.elan_program.specs.declared.signature.Piece.{Piece}
use Rattle.elan_program.specs.declared.signature.Piece.TheVariants as piece
use Rattle.elan_program.specs.declared.signature.Operator.{Operator}
use Rattle.elan_reading.specs.declared.lexeme.Lexeme.{Lexeme}
use Rattle.elan_reading.specs.declared.edge.Position.{Position}
use Rattle.elan_reading.specs.declared.edge.Position.TheVariants.{First, Later}
use Rattle.elan_reading.specs.declared.edge.Side.{Side}
use Rattle.elan_reading.specs.declared.edge.Side.TheVariants.{Left, Inner, Right}
use Rattle.elan_reading.specs.Edge.{is_hole, is_injection, fits}

-- ---- pieces

-- whether there is a piece and it is a hole
abbrev pub is_hole_of : Option Piece → Bool
is_hole_of None = false
is_hole_of (Some p) = is_hole p

-- whether there is a piece and it is the word of this token
abbrev pub is_its_word : Option Piece → Lexeme → Bool
is_its_word None t = false
is_its_word (Some piece.Hole) t = false
is_its_word (Some (piece.Word name)) t = bytes_eq name.bytes t.text

-- whether the piece at this place is a hole
abbrev pub is_hole_at : Operator → ℕ → Bool
is_hole_at o at = is_hole_of (slice_get o.pieces at)

-- whether the piece at this place is the word of this token
abbrev pub is_word_at : Operator → ℕ → Lexeme → Bool
is_word_at o at t = is_its_word (slice_get o.pieces at) t

-- whether the argument at this place is of this sort
abbrev pub is_arg_at : Operator → ℕ → SortId → Bool
is_arg_at o at s = is_sort (slice_get o.args at) s

-- whether a piece is the word of the token before, where there is one
abbrev pub is_word_before : Operator → ℕ → Option Lexeme → Bool
is_word_before o at None = false
is_word_before o at (Some t) = is_word_at o at t

-- whether a piece may stand before a run that comes after this token
abbrev pub fits_before : Operator → ℕ → Option Lexeme → Bool
fits_before o at before = is_hole_at o at || is_word_before o at before

-- an injection with an argument of this sort
abbrev pub is_injection_from : Operator → SortId → Bool
is_injection_from o s = is_injection o && ((length o.args == 1) && is_arg_at o 0 s)

-- ---- holes

-- whether the piece at this place is the first
abbrev pub position_at : ℕ → Position
position_at zero = First
position_at (suc k) = Later

-- the side of the hole before this piece
abbrev pub side_before : Operator → ℕ → Side
side_before o k = if k == 1 then Left else if k == length o.pieces then Right else Inner

-- whether there is an argument before this one, and the piece before this one is a hole
abbrev pub takes_hole : Operator → ℕ → ℕ → Bool
takes_hole o k h = (nat_lt 0 k && nat_lt 0 h) && is_hole_at o (k - 1)

-- whether the argument before this one is of this sort, and one with this priority at an edge may stand before this piece
abbrev pub fits_arg : Operator → ℕ → ℕ → SortId → Option ℕ → Bool
fits_arg o k h s tie = is_arg_at o (h - 1) s && fits o (side_before o k) tie

-- whether a tree of this sort, with this priority at an edge, may stand in the hole before this piece, which takes the
-- argument before this one
abbrev pub fits_hole : Operator → ℕ → ℕ → SortId → Option ℕ → Bool
fits_hole o k h s tie = takes_hole o k h && fits_arg o k h s tie

-- the sort from which an injection leads; none for an operator that is no injection
abbrev pub source : Operator → Option SortId
source o = if is_injection o then slice_get o.args 0 else None

-- the sort of the last argument, where the last piece is a hole and not the only piece
abbrev pub last_sort : Operator → Option SortId
last_sort o =
    if nat_lt 1 (length o.pieces) && is_hole_at o (length o.pieces - 1) then slice_get o.args (length o.args - 1) else None
