-- Operators that are declared, and the checks of a declaration.
use Rattle.std.specs.Prelude.{ℕ, Bool, ◌&&◌, ◌==◌, cond, nat_lt, Option, Some, None, Result, Ok, Err, List, [], ◌∷◌, ◌++◌, map, length, codes}
use Rattle.std.specs.Str.{bytes_eq}
use Rattle.elan_text.specs.declared.name.Name.{Name}
use Rattle.elan_text.specs.declared.refusal.Code.{Code}
use Rattle.elan_text.specs.declared.refusal.Code.TheVariants.{E05, E10, E11, E12, E14}
use Rattle.elan_text.specs.declared.refusal.Refusal.{Refusal}
use Rattle.elan_terms.specs.declared.tree.SortId.{SortId}
use Rattle.elan_phrases.specs.declared.span.Span.{Span}
use Rattle.elan_syntax.specs.declared.parts.OpDecl.{OpDecl}
use Rattle.elan_syntax.specs.declared.parts.Side.{Side}
use Rattle.elan_syntax.specs.declared.parts.Side.TheVariants as side
use Rattle.elan_modules.specs.declared.flat.LoadedText.{LoadedText}
use Rattle.elan_modules.specs.Sorts.{words_in, written}
use Rattle.elan_program.specs.declared.signature.Piece.{Piece}
use Rattle.elan_program.specs.declared.signature.Piece.TheVariants as piece
use Rattle.elan_program.specs.declared.signature.Assoc.{Assoc}
use Rattle.elan_program.specs.declared.signature.Assoc.TheVariants as assoc
use Rattle.elan_program.specs.declared.signature.Operator.{Operator}
use Rattle.elan_program.specs.Soundness.{is_some_list, are_spelled, holes, ac_fits}
use Rattle.elan_signature.specs.Outcomes.{next, refusal_at}
use Rattle.elan_numbers.specs.Numbering.{number_of}

-- the token `@` is a hole, and every other one is a word piece
abbrev pub piece_of : List ℕ → Piece
piece_of word = cond (bytes_eq word (codes "@")) piece.Hole (piece.Word (record { bytes = word }))

-- the priority that is declared, or 0
abbrev pub priority_of : Option ℕ → ℕ
priority_of None = 0
priority_of (Some priority) = priority

-- the associativity; an operator that is associative and commutative and has none counts as `assocLeft`
abbrev pub associativity_of : Option Side → Bool → Assoc
associativity_of (Some side.Left) ac = assoc.Left
associativity_of (Some side.Right) ac = assoc.Right
associativity_of None ac = cond ac assoc.Left assoc.No

-- the operator of a declaration with these sorts
abbrev pub operator_with : LoadedText → OpDecl → List SortId → SortId → Operator
operator_with text d args sort = record {
  pieces = map piece_of (words_in text d.spelling);
  args = args;
  sort = sort;
  pri = priority_of d.attributes.priority;
  assoc = associativity_of d.attributes.associativity d.attributes.ac;
  ac = d.attributes.ac;
  builtin = None;
}

-- a module of a text, with the sorts that stand for its parameters
pub record Scope : Type 0 where
  pub text : LoadedText
  pub parameters : List Name
  pub args : List Name
  -- all sorts by their numbers
  pub sorts : List Name
  -- all sorts as they are counted for the limit
  pub counted : List Name

-- what a walk has before it: all texts, and all sorts by their numbers and as they are counted
pub record World : Type 0 where
  pub texts : List LoadedText
  pub sorts : List Name
  pub counted : List Name

-- a module of a text
abbrev pub scope_of : World → LoadedText → List Name → List Name → Scope
scope_of w text parameters args =
    record { text = text; parameters = parameters; args = args; sorts = w.sorts; counted = w.counted }

-- the written form of a sort expression
abbrev pub sort_text : Scope → Span → List ℕ
sort_text c = written c.text c.parameters c.args

-- a refusal at a token of the module's text
abbrev pub refused : {A : Type 0} → Scope → Code → ℕ → Result A Refusal
refused c code number = Err (refusal_at c.text code number)

-- a sort that is there, or a refusal at this token of a text
abbrev pub known_at : LoadedText → ℕ → Option ℕ → Result SortId Refusal
known_at text first None = Err (refusal_at text E10 first)
known_at text first (Some n) = Ok (record { 0 = n })

-- the sort of a sort expression
unfoldable pub sort_at : Scope → Span → Result SortId Refusal
sort_at c s = known_at c.text s.first (number_of (sort_text c s) c.sorts)

-- the sorts of sort expressions, behind those of earlier ones
unfoldable pub sorts_at : Scope → List SortId → List Span → Result (List SortId) Refusal
sorts_at c found [] = Ok found
sorts_at c found (s ∷ ss) = next (sort_at c s) (λ n. sorts_at c (found ++ n ∷ []) ss)

-- how many operators and sorts there may be
abbrev pub most : ℕ
most = 4096

-- a spelling has at least one piece, and only words that it may have
abbrev pub is_spelling : List Piece → Bool
is_spelling pieces = is_some_list pieces && are_spelled pieces

-- the operator with this number, unless something is wrong with it
unfoldable pub admitted : Scope → ℕ → Span → Operator → Result Operator Refusal
admitted c number spelling o =
    cond (is_spelling o.pieces)
    (cond (holes o.pieces == length o.args)
    (cond (ac_fits o) (cond (nat_lt number most) (Ok o) (refused c E14 spelling.first)) (refused c E12 spelling.first))
    (refused c E11 spelling.first))
    (refused c E05 spelling.first)

-- the operator of a declaration
unfoldable pub operator_at : Scope → ℕ → OpDecl → Result Operator Refusal
operator_at c number d =
    next (sorts_at c [] d.args)
    (λ args. next (sort_at c d.sort) (λ sort. admitted c number d.spelling (operator_with c.text d args sort)))
