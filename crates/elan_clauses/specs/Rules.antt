-- Rules and definitions, checked one by one.
use Rattle.std.specs.Prelude.{ℕ, ◌+◌, ◌==◌, Bool, true, false, ◌&&◌, ◌||◌, if◌then◌else◌, Option, Some, None, Result, Ok, Err, List, [], ◌∷◌, ◌++◌, length, map, slice_get}
use Rattle.std.specs.List.{list_any}
use Rattle.std.specs.Option.{option_map}
use Rattle.std.specs.Str.{bytes_eq}
use Rattle.elan_text.specs.declared.name.Name.{Name}
use Rattle.elan_text.specs.declared.refusal.Code.{Code}
use Rattle.elan_text.specs.declared.refusal.Code.TheVariants.{E21}
use Rattle.elan_terms.specs.declared.tree.SortId.{SortId}
use Rattle.elan_terms.specs.declared.tree.Pattern.{Pattern}
use Rattle.elan_terms.specs.Match.{variables}
use Rattle.elan_terms.specs.Trees.{fold_pattern}
use Rattle.elan_program.specs.declared.signature.Signature.{Signature}
use Rattle.elan_program.specs.Extension.{var_pattern, int_pattern, app_pattern}
use Rattle.elan_names.specs.declared.fault.Fault.{Fault}
use Rattle.elan_names.specs.declared.heads.Names.{Names}
use Rattle.elan_phrases.specs.declared.plan.Plan.{Plan}
use Rattle.elan_phrases.specs.declared.plan.Planned.{Planned}
use Rattle.elan_program.specs.declared.strategy.Strategy.{Strategy}
use Rattle.elan_names.specs.Names.{Word, is_taken}
use Rattle.elan_names.specs.Resolved.{Body, next, resolved}
use Rattle.elan_modules.specs.declared.flat.LoadedText.{LoadedText}
use Rattle.elan_phrases.specs.declared.span.Span.{Span}
use Rattle.elan_syntax.specs.declared.parts.RuleOutline.{RuleOutline}
use Rattle.elan_syntax.specs.declared.parts.Definition.{Definition as DefinitionOutline}
use Rattle.elan_syntax.specs.declared.parts.ClauseOutline.{ClauseOutline}
use Rattle.elan_syntax.specs.declared.parts.ClauseOutline.TheVariants as written
use Rattle.elan_program.specs.declared.program.Clause.{Clause}
use Rattle.elan_program.specs.declared.program.Clause.TheVariants.{If, Where}
use Rattle.elan_program.specs.declared.program.Rule.{Rule}
use Rattle.elan_program.specs.declared.program.Named.{Named}
use Rattle.elan_reading.specs.declared.lexeme.Variable.{Variable}
use Rattle.elan_reading.specs.declared.sought.Sought.TheVariants.{Sort, Any}
use Rattle.elan_modules.specs.Sorts.{word_at}
use Rattle.elan_clauses.specs.Refusals.{Checked, refusal_at, name_at}
use Rattle.elan_clauses.specs.Texts.{Reader, Bound, plan_of, text_as, truth_as, closed, fresh, sort_of}

-- ---- strategies

-- a strategy, or the refusal at its token
abbrev pub at_token : LoadedText → Result Strategy Fault → Checked Strategy
at_token text (Ok s) = Ok s
at_token text (Err f) = Err (refusal_at text f.token f.code)

-- the strategy of a plan at a sort, in this body or in none
abbrev pub resolved_in : Signature → Names → LoadedText → Option Body → SortId → Plan → Checked Strategy
resolved_in g names text body sort plan = at_token text (resolved
    (record { bytes = text.bytes; tokens = text.tokens; names = names; operators = g.operators; body = body }) plan sort)

-- the strategy that is written, or the empty one
abbrev pub strategy_in : Signature → Names → LoadedText → Option Body → SortId → Option Planned → Checked Strategy
strategy_in g names text body sort by = resolved_in g names text body sort (plan_of by)

-- ---- names that stand twice

-- no word was seen
abbrev pub none_seen : Word → Bool
none_seen word = false

-- the first of these tokens whose word was seen before it, where it is told of each word whether it was seen before all
abbrev pub second_of : LoadedText → (Word → Bool) → List ℕ → Option ℕ
second_of text seen [] = None
second_of text seen (t ∷ ts) =
    if seen (word_at text t) then Some t else second_of text (λ word. seen word || bytes_eq (word_at text t) word) ts

-- a value, or the refusal of a name that stands a second time
abbrev pub once_or : {A : Type 0} → LoadedText → Option ℕ → Checked A → Checked A
once_or text None more = more
once_or text (Some t) more = Err (refusal_at text t E21)

-- ---- rules

module _ (read : Reader) (g : Signature) (names : Names) (text : LoadedText) (declared : List Variable) where
  -- the test of an `if`
  abbrev pub checked_if : Bound → Span → Checked Pattern
  checked_if bound at = next (truth_as read g text declared g.truth at) (closed text at bound)

  -- the pattern of a `where`, with its sort
  abbrev pub checked_left : Bound → Span → Checked (Pattern × SortId)
  checked_left bound at =
      next (text_as read g text declared Any at) (λ left.
      next (fresh text at bound left) (λ left.
      next (sort_of g text at left) (λ sort. Ok (left, sort))))

  -- the strategy of a `where` at a sort, and the term from which it starts
  abbrev pub checked_start : Bound → SortId → Option Planned → Span → Checked (Strategy × Pattern)
  checked_start bound sort by at =
      next (strategy_in g names text None sort by) (λ s.
      next (text_as read g text declared (Sort sort) at) (λ of.
      next (closed text at bound of) (λ of. Ok (s, of))))

  -- a `where`, with the variables that are bound behind it
  abbrev pub checked_where : Bound → Span → Option Planned → Span → Checked (Clause × Bound)
  checked_where bound left by of =
      next (checked_left bound left) (λ l.
      next (checked_start bound l.1 by of) (λ s. Ok (Where l.0 s.0 s.1, bound ++ variables l.0)))

  -- A condition, with the variables that are bound behind it. The variables have the numbers of the section.
  abbrev pub checked_clause : Bound → ClauseOutline → Checked (Clause × Bound)
  checked_clause bound (written.If t) = next (checked_if bound t) (λ test. Ok (If test, bound))
  checked_clause bound (written.Where p by t) = checked_where bound p by t

  -- conditions behind those before them
  abbrev pub checked_clauses : List Clause → Bound → List ClauseOutline → Checked (List Clause × Bound)
  checked_clauses before bound [] = Ok (before, bound)
  checked_clauses before bound (c ∷ cs) = next (checked_clause bound c) (λ more. checked_clauses (before ++ more.0 ∷ []) more.1 cs)

  -- a rule with the numbers of the section, and its variables in the order in which they are bound
  abbrev pub checked_rule : SortId → RuleOutline → Checked (Rule × Bound)
  checked_rule sort r =
      next (text_as read g text declared (Sort sort) r.left) (λ left.
      next (text_as read g text declared (Sort sort) r.right) (λ right.
      next (checked_clauses [] (variables left) r.clauses) (λ found.
      next (closed text r.right found.1 right) (λ right.
      Ok (record { label = option_map (name_at text) r.label; sort = sort; left = left; right = right; clauses = found.0 }, found.1)))))

-- ---- variables, numbered in the order in which they are bound

-- the place of a variable among those that are bound
abbrev pub place_in : Bound → ℕ → ℕ
place_in [] x = 0
place_in (v ∷ vs) x = if v.0 == x then 0 else place_in vs x + 1

-- a pattern with its variables numbered so
unfoldable pub numbered_so : Bound → Pattern → Pattern
numbered_so order = fold_pattern (λ x s. var_pattern (place_in order x) s) int_pattern app_pattern

abbrev pub numbered_clause : Bound → Clause → Clause
numbered_clause order (If t) = If (numbered_so order t)
numbered_clause order (Where left by of) = Where (numbered_so order left) by (numbered_so order of)

-- a rule with its variables numbered so
abbrev pub numbered_rule : Rule × Bound → Rule
numbered_rule (r, order) = record {
  label = r.label;
  sort = r.sort;
  left = numbered_so order r.left;
  right = numbered_so order r.right;
  clauses = map (numbered_clause order) r.clauses;
}

-- ---- definitions

-- A definition behind so many others: its name is that of none of them, nor of a rule, for its sort; its parameters
-- differ; and its strategy is read at its sort.
abbrev pub checked_definition : Reader → Signature → Names → LoadedText → ℕ → SortId → DefinitionOutline → Checked Named
checked_definition read g names text before sort d =
    once_or text (if is_taken names before sort (word_at text d.name) then Some d.name else None)
    (once_or text (second_of text none_seen d.parameters)
    (next (strategy_in g names text (Some (record { parameters = d.parameters; sort = sort })) sort (Some d.by)) (λ body.
    Ok (record { name = name_at text d.name; sort = sort; parameters = length d.parameters; body = body }))))
