-- Texts as patterns, and which variables they may have.
use Rattle.std.specs.Prelude.{ℕ, ◌==◌, Bool, true, false, not, if◌then◌else◌, nat_lt, Option, Some, None, Result, Ok, Err, List, [], ◌∷◌, length, slice_get, slice_range}
use Rattle.std.specs.List.{list_any}
use Rattle.std.specs.Option.{option_map}
use Rattle.elan_text.specs.declared.refusal.Code.{Code}
use Rattle.elan_text.specs.declared.refusal.Code.TheVariants.{E15, E17, E18, E19}
use Rattle.elan_lexer.specs.declared.token.Token.{Token}
use Rattle.elan_terms.specs.declared.tree.SortId.{SortId}
use Rattle.elan_terms.specs.declared.tree.Pattern.{Pattern}
use Rattle.elan_terms.specs.declared.tree.PatternNode as pattern
use Rattle.elan_terms.specs.Match.{variables}
use Rattle.elan_program.specs.declared.signature.Operator.{Operator}
use Rattle.elan_program.specs.declared.signature.Signature.{Signature}
use Rattle.elan_program.specs.declared.signature.Truth.{Truth}
use Rattle.elan_program.specs.Patterns.{uses}
use Rattle.elan_phrases.specs.declared.plan.Plan.{Plan}
use Rattle.elan_phrases.specs.declared.plan.PlanNode.TheVariants as plan
use Rattle.elan_phrases.specs.declared.plan.Planned.{Planned}
use Rattle.elan_modules.specs.declared.flat.LoadedText.{LoadedText}
use Rattle.elan_phrases.specs.declared.span.Span.{Span}
use Rattle.elan_reading.specs.declared.lexeme.Variable.{Variable}
use Rattle.elan_reading.specs.declared.sought.Sought.{Sought}
use Rattle.elan_reading.specs.declared.sought.Sought.TheVariants.{Sort, Any}
use Rattle.elan_clauses.specs.Refusals.{Checked, refusal_at}

-- how texts are read: the one reading of tokens, or E17, E15 or E16
pub record Reader : Type 0 where
  pub reading : Signature → List Variable → Sought → List ℕ → List Token → Result Pattern Code

-- a value, or the refusal at the first token of a text
abbrev pub at_text : {A : Type 0} → LoadedText → Span → Result A Code → Checked A
at_text text at (Ok a) = Ok a
at_text text at (Err code) = Err (refusal_at text at.first code)

-- a value, or the refusal of a text for which the test holds
abbrev pub unless : {A : Type 0} → LoadedText → Span → Code → Bool → A → Checked A
unless text at code bad a = if bad then Err (refusal_at text at.first code) else Ok a

module _ (read : Reader) (g : Signature) (text : LoadedText) (declared : List Variable) where
  -- a text at a sort, or at any
  abbrev pub text_as : Sought → Span → Checked Pattern
  text_as sought at = at_text text at (read.reading g declared sought text.bytes (slice_range text.tokens at.first at.past))

  -- a text as a truth value; where there are none it has no reading
  abbrev pub truth_as : Option Truth → Span → Checked Pattern
  truth_as (Some truth) at = text_as (Sort truth.sort) at
  truth_as None at =
      at_text text at (Err (if nat_lt 256 (length (slice_range text.tokens at.first at.past)) then E17 else E15))

-- the plan of a strategy, which is `id` where it is empty
abbrev pub plan_of : Option Planned → Plan
plan_of None = record { node = plan.Id }
plan_of (Some by) = by.plan

-- variables with their sorts
abbrev pub Bound : Type 0
Bound = List (ℕ × SortId)

-- a text whose variables are all bound
abbrev pub closed : LoadedText → Span → Bound → Pattern → Checked Pattern
closed text at bound p = unless text at E18 (not (uses bound p)) p

-- one of these variables has this number
abbrev pub has_number : Bound → ℕ → Bool
has_number bound x = list_any (λ w. w.0 == x) bound

-- a variable has the number of one of these
abbrev pub is_numbered_in : Bound → ℕ × SortId → Bool
is_numbered_in bound v = list_any (λ w. w.0 == v.0) bound

-- a text of which no variable is bound
abbrev pub fresh : LoadedText → Span → Bound → Pattern → Checked Pattern
fresh text at bound p = unless text at E19 (list_any (is_numbered_in bound) (variables p)) p

-- the sort of an operator, if it is there
abbrev pub made_by : Option Operator → Option SortId
made_by None = None
made_by (Some o) = Some o.sort

-- the sort of a pattern, by its outermost node
abbrev pub head_sort : Signature → pattern.PatternNode → Option SortId
head_sort g (pattern.Var x s) = Some s
head_sort g (pattern.Int z) = g.int
head_sort g (pattern.App' op shape row) = made_by (slice_get g.operators op.0)

-- a sort, where it is there
abbrev pub sort_or_none : Option SortId → Result SortId Code
sort_or_none None = Err E15
sort_or_none (Some s) = Ok s

-- the sort of what was read, which is always there
abbrev pub sort_of : Signature → LoadedText → Span → Pattern → Checked SortId
sort_of g text at p = at_text text at (sort_or_none (head_sort g p.node))
