-- Sort expressions, whose names are counted, and references to modules.
use Rattle.std.specs.Prelude.{ℕ, ◌-◌, Bool, List, [], ◌∷◌, ◌++◌}
use Rattle.elan_forms.specs.Form.{◌>>=◌, ◌>>◌, counted, pure, either, loop, nested, spanned}
use Rattle.elan_phrases.specs.declared.span.Span.{Span}
use Rattle.elan_phrases.specs.declared.symbol.Symbol.{Symbol}
use Rattle.elan_phrases.specs.declared.symbol.Symbol.TheVariants.{Comma, LeftSquare, RightSquare}
use Rattle.elan_phrases.specs.Symbols.{one, a, names}
use Rattle.elan_phrases.specs.Tokens.{Rule, taken, sign, span}

-- A limited rule takes how many names, or how many tokens, are left for it, and its value is how many are left then.
abbrev pub Limited : Type 1
Limited = ℕ → Rule ℕ

-- ---- one sort expression

-- { "," sortx }
unfoldable pub more_arguments : Limited → Limited
more_arguments sort = loop (λ _. a (one Comma)) (λ left. sign Comma >> sort left)

-- sortx { "," sortx } "]", behind the bracket that opens it
unfoldable pub arguments : Limited → Limited
arguments sort left = do
  left ← sort left
  left ← more_arguments sort left
  sign RightSquare
  pure left

-- "[" sortx { "," sortx } "]"
unfoldable pub bracketed : Limited → Limited
bracketed sort left = sign LeftSquare >> arguments sort left

-- NAME [ "[" sortx { "," sortx } "]" ]
unfoldable pub sort_body : Limited → Limited
sort_body sort left = do
  left ← counted (a names) left
  either (bracketed sort left) (pure left)

-- sortx = NAME [ "[" sortx { "," sortx } "]" ]; the number is how many names are left
unfoldable pub sort : Limited
sort = nested (a names) sort_body

-- A sort expression has at most so many names.
abbrev pub most_sort_names : ℕ
most_sort_names = 64

-- so many names are left for the arguments of a sort, whose own name is the first
abbrev pub most_argument_names : ℕ
most_argument_names = most_sort_names - 1

-- sortx { "," sortx } "]", behind the name of a sort and the bracket
unfoldable pub closing_arguments : Rule (Unit {0})
closing_arguments = arguments sort most_argument_names >> pure tt

-- a sort expression
unfoldable pub sort_span : Rule Span
sort_span = spanned span (sort most_sort_names)

-- { sortx }, each behind those found
unfoldable pub more_sorts : List Span → Rule (List Span)
more_sorts = loop (λ _. a names) (λ found. sort_span >>= (λ sort. pure (found ++ sort ∷ [])))

-- ---- references

-- "," sortx, which is a sort expression of its own
abbrev pub actual : Rule (Unit {0})
actual = sign Comma >> (sort_span >> pure tt)

-- { "," sortx }
unfoldable pub more_actuals : Rule (Unit {0})
more_actuals = loop (λ _. a (one Comma)) (λ _. actual) tt

-- "[" sortx { "," sortx } "]"
unfoldable pub actuals : Rule (Unit {0})
actuals = do
  sign LeftSquare
  sort_span
  more_actuals
  sign RightSquare

-- [ "[" sortx { "," sortx } "]" ]
abbrev pub some_actuals : Rule (Unit {0})
some_actuals = either actuals (pure tt)

-- ref = NAME [ "[" sortx { "," sortx } "]" ], whose name is one of these
unfoldable pub reference : (Symbol → Bool) → Rule Span
reference p = spanned span (taken (a p) >> some_actuals)

-- { ref }, each behind those found
unfoldable pub more_references : (Symbol → Bool) → List Span → Rule (List Span)
more_references p = loop (λ _. a p) (λ found. reference p >>= (λ next. pure (found ++ next ∷ [])))

-- ref { ref }, behind those found
unfoldable pub references : (Symbol → Bool) → List Span → Rule (List Span)
references p found = reference p >>= (λ next. more_references p (found ++ next ∷ []))
