-- Three operands between two operators.
use Rattle.std.specs.Prelude.{◌≡◌, ◌<◌, false, None, Some, List, [], ◌∷◌, ◌++◌, length, slice_get}
use Rattle.elan_text.specs.declared.name.Name.{Name}
use Rattle.elan_terms.specs.declared.tree.OpId.{OpId}
use Rattle.elan_terms.specs.declared.tree.SortId.{SortId}
use Rattle.elan_terms.specs.declared.tree.Pattern.{Pattern}
use Rattle.elan_program.specs.declared.signature.Piece.TheVariants.{Hole, Word}
use Rattle.elan_program.specs.declared.signature.Operator.{Operator}
use Rattle.elan_program.specs.declared.signature.Signature.{Signature}
use Rattle.elan_program.specs.Extension.{app_pattern}
use Rattle.elan_reading.specs.declared.lexeme.Lexeme.{Lexeme}
use Rattle.elan_reading.specs.declared.lexeme.Variable.{Variable}
use Rattle.elan_reading.specs.Edge.{tie_of}
use Rattle.elan_reading.specs.Lexemes.{sign_token}
use Rattle.elan_reading.specs.Readings.{Reads, head}

-- an operator between two arguments of its own sort, written as one token
pub record IsInfix (g : Signature) (op : OpId) (o : Operator) (token : Lexeme) : Type 0 where
  pub there : slice_get g.operators op.0 ≡ Some o
  pub name : Name
  pub token_text : token.text ≡ name.bytes
  pub spelling : o.pieces ≡ Hole ∷ Word name ∷ Hole ∷ []
  pub sorts : o.args ≡ o.sort ∷ o.sort ∷ []

-- a run that is read, ungrouped, as a tree that may stand at every edge, as a variable or an integer is
pub record IsOperand (g : Signature) (variables : List Variable) (s : SortId) (run : List Lexeme) (t : Pattern) : Type 0 where
  pub some : 0 < length run
  pub read : Reads g variables s run t false
  pub free : tie_of (head g t) ≡ None

-- an operator over two trees
abbrev pub over : OpId → Pattern → Pattern → Pattern
over op t u = app_pattern op (t ∷ u ∷ [])

-- two runs with a token between them
abbrev pub joined : List Lexeme → Lexeme → List Lexeme → List Lexeme
joined xs token ys = xs ++ token ∷ ys

-- a run in parentheses
abbrev pub in_parentheses : List Lexeme → List Lexeme
in_parentheses run = sign_token 40 ∷ run ++ sign_token 41 ∷ []
