-- The readings of a run of tokens at a sort, case by case.
use Rattle.std.specs.Prelude.{◌≡◌, ℕ, ◌<◌, pos, neg_ℤ, Bool, true, false, ◌||◌, if◌then◌else◌, Option, None, Some, List, [], ◌∷◌, ◌++◌, length, slice_get}
use Rattle.std.specs.List.{Contains}
use Rattle.elan_text.specs.declared.name.Name.{Name}
use Rattle.elan_lexer.specs.Bytes.{value}
use Rattle.elan_terms.specs.declared.tree.OpId.{OpId}
use Rattle.elan_terms.specs.declared.tree.SortId.{SortId}
use Rattle.elan_terms.specs.declared.tree.Pattern.{Pattern}
use Rattle.elan_terms.specs.Trees.{fold_pattern}
use Rattle.elan_program.specs.declared.signature.Piece.{Piece}
use Rattle.elan_program.specs.declared.signature.Piece.TheVariants.{Hole, Word}
use Rattle.elan_program.specs.declared.signature.Operator.{Operator}
use Rattle.elan_program.specs.declared.signature.Signature.{Signature}
use Rattle.elan_program.specs.Extension.{var_pattern, int_pattern, app_pattern}
use Rattle.elan_reading.specs.declared.lexeme.Lexeme.{Lexeme}
use Rattle.elan_reading.specs.declared.lexeme.Variable.{Variable}
use Rattle.elan_reading.specs.declared.edge.Position.{Position}
use Rattle.elan_reading.specs.declared.edge.Position.TheVariants.{First, Later}
use Rattle.elan_reading.specs.Lexemes.{word_token, number_token, sign_token}
use Rattle.elan_reading.specs.Edge.{is_injection, side_of, tie_of, fits}

module _ (g : Signature) where
  -- the operator of a node, or what its argument has where the operator is an injection
  abbrev pub passed : Option Operator → List (Option Operator) → Option Operator
  passed None below = None
  passed (Some o) [] = Some o
  passed (Some o) (b ∷ bs) = if is_injection o then b else Some o

  -- the operator of the first node that is no injection; none where that is a variable or an integer
  unfoldable pub head : Pattern → Option Operator
  head = fold_pattern (λ _ _. None) (λ _. None) (λ op below. passed (slice_get g.operators op.0) below)

  -- the edge rule: a tree may stand in a hole that has this position and these pieces behind it
  abbrev pub is_allowed : Operator → Position → List Piece → Pattern → Bool → Bool
  is_allowed outer position ps t grouped = grouped || fits outer (side_of position ps) (tie_of (head t))

  module _ (variables : List Variable) where
    mutual
      -- A reading of a run at a sort: its tree, and whether it is grouped. A variable is read as itself; digits, also behind
      -- a minus, as an integer; an operator that is no injection over the trees that fill its spelling; an injection over
      -- what is read at its argument sort, grouped where that is; and a run in parentheses as the run, grouped.
      pub data Reads : SortId → List Lexeme → Pattern → Bool → Type 0 where
        variable : (v : Variable) → Contains variables v
            → Reads v.sort (word_token v.name.bytes ∷ []) (var_pattern v.number v.sort) false
        number : (s : SortId) (digits : List ℕ) → g.int ≡ Some s
            → Reads s (number_token digits ∷ []) (int_pattern (pos (value digits))) false
        minus : (s : SortId) (digits : List ℕ) → g.int ≡ Some s
            → Reads s (sign_token 45 ∷ number_token digits ∷ []) (int_pattern (neg_ℤ (pos (value digits)))) false
        operator : (op : OpId) (o : Operator) (run : List Lexeme) (ts : List Pattern)
            → slice_get g.operators op.0 ≡ Some o → is_injection o ≡ false → Fills o First o.pieces o.args run ts
            → Reads o.sort run (app_pattern op ts) false
        injection : (op : OpId) (o : Operator) (s : SortId) (run : List Lexeme) (t : Pattern) (grouped : Bool)
            → slice_get g.operators op.0 ≡ Some o → is_injection o ≡ true → o.args ≡ s ∷ [] → Reads s run t grouped
            → Reads o.sort run (app_pattern op (t ∷ [])) grouped
        group : (s : SortId) (run : List Lexeme) (t : Pattern) (grouped : Bool) → Reads s run t grouped
            → Reads s (sign_token 40 ∷ run ++ sign_token 41 ∷ []) t true

      -- A run is cut into as many parts as there are pieces left of a spelling, the next of which has this position: a word
      -- takes one token of its bytes, and a hole takes one token at least, read at the argument's sort as a tree that may
      -- stand there.
      pub data Fills : Operator → Position → List Piece → List SortId → List Lexeme → List Pattern → Type 0 where
        done : (o : Operator) (position : Position) → Fills o position [] [] [] []
        word : (o : Operator) (position : Position) (name : Name) (ps : List Piece) (ss : List SortId) (token : Lexeme) (run : List Lexeme) (ts : List Pattern)
            → token.text ≡ name.bytes → Fills o Later ps ss run ts
            → Fills o position (Word name ∷ ps) ss (token ∷ run) ts
        hole : (o : Operator) (position : Position) (ps : List Piece) (s : SortId) (ss : List SortId) (part run : List Lexeme) (t : Pattern) (grouped : Bool) (ts : List Pattern)
            → 0 < length part → Reads s part t grouped → is_allowed o position ps t grouped ≡ true
            → Fills o Later ps ss run ts
            → Fills o position (Hole ∷ ps) (s ∷ ss) (part ++ run) (t ∷ ts)
