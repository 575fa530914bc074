-- Sections for a sort, whatever stands behind the name of the sort.
use Rattle.std.specs.Prelude.{◌≡◌, ◌+◌, Bool, true, not, ◌||◌, List, [], ◌∷◌, drop}
use Rattle.elan_forms.specs.Form.{◌>>=◌, pure}
use Rattle.elan_phrases.specs.declared.symbol.Symbol.TheVariants.{LeftSquare, RightSquare}
use Rattle.elan_phrases.specs.Symbols.{Seen, one, a}
use Rattle.elan_phrases.specs.Tokens.{Rule}
use Rattle.elan_phrases.specs.SortExpressions.{sort_span}
use Rattle.elan_syntax.specs.declared.rules.RulesFor.{RulesFor}
use Rattle.elan_syntax.specs.declared.definitions.StrategiesFor.{StrategiesFor}
use Rattle.elan_syntax.specs.Grammar.{more_vars, more_ruled, rules_of, more_defined, strategies_of}

-- sortx { vars } { vis | rule }
unfoldable pub plain_rules : Rule RulesFor
plain_rules = do
  sort ← sort_span
  variables ← more_vars []
  found ← more_ruled []
  pure (rules_of sort variables found)

-- sortx { vis | "implicit" | definition }
unfoldable pub plain_strategies : Rule StrategiesFor
plain_strategies = do
  sort ← sort_span
  found ← more_defined []
  pure (strategies_of sort found)

-- where the tokens begin with `[`, the next one is `]`
abbrev pub is_closed : List Seen → Bool
is_closed [] = true
is_closed (t ∷ []) = true
is_closed (t ∷ u ∷ ts) = not (a (one LeftSquare) t) || a (one RightSquare) u

-- A sort of one token, which stands first, has a `[` behind it only where `]` follows that.
abbrev pub LeavesNoBracket : List Seen → RulesFor → Type 0
LeavesNoBracket tokens found = found.sort.past ≡ found.sort.first + 1 → is_closed (drop 1 tokens) ≡ true
