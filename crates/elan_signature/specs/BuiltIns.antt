-- The operators of the built-in modules.
use Rattle.std.specs.Prelude.{ℕ, ◌+◌, false, Some, None, List, [], ◌∷◌, ◌++◌, length, codes}
use Rattle.std.specs.Option.{unwrap_or}
use Rattle.elan_text.specs.declared.name.Name.{Name}
use Rattle.elan_terms.specs.declared.tree.SortId.{SortId}
use Rattle.elan_modules.specs.declared.flat.Instance.{Instance}
use Rattle.elan_modules.specs.declared.flat.Origin.{Origin}
use Rattle.elan_modules.specs.declared.flat.Origin.TheVariants as origin
use Rattle.elan_modules.specs.declared.flat.Standard.{Standard}
use Rattle.elan_modules.specs.declared.flat.Standard.TheVariants as standard
use Rattle.elan_program.specs.declared.signature.Piece.{Piece}
use Rattle.elan_program.specs.declared.signature.Piece.TheVariants as piece
use Rattle.elan_program.specs.declared.signature.Assoc.{Assoc}
use Rattle.elan_program.specs.declared.signature.Assoc.TheVariants as assoc
use Rattle.elan_program.specs.declared.signature.Builtin.{Builtin}
use Rattle.elan_program.specs.declared.signature.Builtin.TheVariants as by
use Rattle.elan_program.specs.declared.signature.Operator.{Operator}
use Rattle.elan_program.specs.declared.signature.Truth.{Truth}
use Rattle.elan_program.specs.declared.signature.Signature.{Signature}
use Rattle.elan_numbers.specs.Numbering.{number_of}

-- the number of the sort of this written form; where there is none, a number that no sort has
abbrev pub sort_of : List Name → List ℕ → SortId
sort_of sorts sort = record { 0 = unwrap_or (number_of sort sorts) (length sorts) }

-- an operator of a built-in module
abbrev pub built_in : List Piece → List SortId → SortId → ℕ → Assoc → Builtin → Operator
built_in pieces args sort pri side which =
    record { pieces = pieces; args = args; sort = sort; pri = pri; assoc = side; ac = false; builtin = Some which }

-- a word of a spelling
abbrev pub word_of : List ℕ → Piece
word_of bytes = piece.Word (record { bytes = bytes })

-- an operator between two arguments of one sort
abbrev pub infix_of : List ℕ → SortId → SortId → ℕ → Assoc → Builtin → Operator
infix_of word arg sort pri side which =
    built_in (piece.Hole ∷ word_of word ∷ piece.Hole ∷ []) (arg ∷ arg ∷ []) sort pri side which

-- a truth value
abbrev pub constant_of : List ℕ → SortId → Builtin → Operator
constant_of word sort which = built_in (word_of word ∷ []) [] sort 0 assoc.No which

-- the operator `not`
abbrev pub not_of : SortId → Operator
not_of b = built_in (word_of (codes "not") ∷ piece.Hole ∷ []) (b ∷ []) b 30 assoc.No by.Not

-- the truth values
abbrev pub constants : SortId → List Operator
constants b = constant_of (codes "true") b by.Yes ∷ constant_of (codes "false") b by.No ∷ []

-- `and`, `or` and `not`
abbrev pub connectives : SortId → List Operator
connectives b =
    infix_of (codes "and") b b 20 assoc.Left by.And ∷ infix_of (codes "or") b b 10 assoc.Left by.Or ∷ not_of b ∷ []

-- the operators of `bool`
abbrev pub bool_operators : SortId → List Operator
bool_operators b = constants b ++ connectives b

-- `+` and `-`
abbrev pub additions : SortId → List Operator
additions i = infix_of (codes "+") i i 50 assoc.Left by.Add ∷ infix_of (codes "-") i i 50 assoc.Left by.Sub ∷ []

-- `*` and `/`
abbrev pub quotients : SortId → List Operator
quotients i = infix_of (codes "*") i i 60 assoc.Left by.Mul ∷ infix_of (codes "/") i i 60 assoc.Left by.Div ∷ []

-- `*`, `/` and `mod`
abbrev pub products : SortId → List Operator
products i = quotients i ++ infix_of (codes "mod") i i 60 assoc.Left by.Mod ∷ []

-- the operators of `int` that make integers
abbrev pub sums : SortId → List Operator
sums i = additions i ++ products i

-- the operators of `int` that make truth values
abbrev pub comparisons : SortId → SortId → List Operator
comparisons b i =
    infix_of (codes "<") i b 40 assoc.No by.Less
    ∷ infix_of (codes "<=") i b 40 assoc.No by.LessOrSame
    ∷ infix_of (codes ">") i b 40 assoc.No by.Greater
    ∷ infix_of (codes ">=") i b 40 assoc.No by.GreaterOrSame
    ∷ infix_of (codes "==") i b 40 assoc.No by.IntSame
    ∷ infix_of (codes "!=") i b 40 assoc.No by.IntDiffer
    ∷ []

-- the operators of `eq` for a sort
abbrev pub eq_operators : SortId → SortId → List Operator
eq_operators b s =
    infix_of (codes "==") s b 40 assoc.No by.Same ∷ infix_of (codes "!=") s b 40 assoc.No by.Differ ∷ []

-- the operators of `eq` for each of these sorts
abbrev pub with_eqs : List Name → List Operator → List Name → List Operator
with_eqs sorts known [] = known
with_eqs sorts known (s ∷ ss) =
    with_eqs sorts (known ++ eq_operators (sort_of sorts (codes "bool")) (sort_of sorts s.bytes)) ss

-- the truth values, whose constants are the next two operators
abbrev pub truth_at : List Name → ℕ → Truth
truth_at sorts n = record { sort = sort_of sorts (codes "bool"); yes = record { 0 = n }; no = record { 0 = n + 1 } }

-- all sorts by their numbers
module _ (sorts : List Name) where
  -- a signature with the operators of `bool`
  abbrev pub with_bool : Signature → Signature
  with_bool g = record {
    sorts = g.sorts;
    operators = g.operators ++ bool_operators (sort_of sorts (codes "bool"));
    int = g.int;
    truth = Some (truth_at sorts (length g.operators));
  }

  -- a signature with the operators of `int`
  abbrev pub with_int : Signature → Signature
  with_int g = record {
    sorts = g.sorts;
    operators = (g.operators ++ sums (sort_of sorts (codes "int")))
        ++ comparisons (sort_of sorts (codes "bool")) (sort_of sorts (codes "int"));
    int = Some (sort_of sorts (codes "int"));
    truth = g.truth;
  }

  -- a signature with the operators of `eq` for these sorts
  abbrev pub with_eq : Signature → List Name → Signature
  with_eq g args =
      record { sorts = g.sorts; operators = with_eqs sorts g.operators args; int = g.int; truth = g.truth }

  -- a signature with the operators of a built-in module with these arguments
  abbrev pub with_standard : Signature → Standard → List Name → Signature
  with_standard g standard.Bool args = with_bool g
  with_standard g standard.Int args = with_int g
  with_standard g standard.Eq args = with_eq g args

  -- a signature with the operators of an instance, if it is built in
  abbrev pub with_instance : Signature → Instance → Origin → Signature
  with_instance g i (origin.Builtin built_in) = with_standard g built_in i.args
  with_instance g i (origin.Text text «module») = g

  -- a signature with the operators of all instances that are built in
  abbrev pub with_instances : Signature → List Instance → Signature
  with_instances g [] = g
  with_instances g (i ∷ is) = with_instances (with_instance g i i.origin) is

-- a signature of sorts that has no operators yet
abbrev pub signature_with : List Name → Signature
signature_with sorts = record { sorts = sorts; operators = []; int = None; truth = None }
