-- Strategies, whose tokens are counted, with their trees as values.
use Rattle.std.specs.Prelude.{ℕ, Bool, true, false, Option, Some, None, List, [], ◌∷◌, ◌++◌}
use Rattle.elan_forms.specs.Form.{◌>>=◌, counted, pure, either, optional, loop, nested, placed, numbered}
use Rattle.elan_phrases.specs.declared.left.Left.{Left}
use Rattle.elan_phrases.specs.declared.plan.Plan.{Plan}
use Rattle.elan_phrases.specs.declared.plan.PlanNode.{PlanNode}
use Rattle.elan_phrases.specs.declared.plan.PlanNode.TheVariants as plan
use Rattle.elan_phrases.specs.declared.plan.Planned.{Planned}
use Rattle.elan_phrases.specs.declared.symbol.Symbol.TheVariants.{Comma, Semicolon, LeftRound, RightRound, Star, Plus, Id, Fail, Dk, One, Repeat, Iterate, Normalise}
use Rattle.elan_phrases.specs.Symbols.{one, a, labels, choices}
use Rattle.elan_phrases.specs.Beginnings.{begins_step}
use Rattle.elan_phrases.specs.Tokens.{Rule, span}

-- A counted rule takes how many tokens are left for it, and its value has how many are left then.
abbrev pub Counted : Type 0 → Type 1
Counted V = ℕ → Rule (Left V)

-- a value with so many tokens left behind it
abbrev pub with_left : {V : Type 0} → ℕ → V → Left V
with_left left value = record { left = left; value = value }

-- a strategy of a kind
abbrev pub made : PlanNode → ℕ → Left Plan
made node left = with_left left (record { node = node })

-- strategies and one more behind them
abbrev pub behind : List Plan → Left Plan → Left (List Plan)
behind before next = with_left next.left (before ++ next.value ∷ [])

-- ---- strategies in parentheses

-- "," strategy, behind those before it
abbrev pub one_arm : Counted Plan → Left (List Plan) → Rule (Left (List Plan))
one_arm strategy found = do
  left ← counted (a (one Comma)) found.left
  arm ← strategy left
  pure (behind found.value arm)

-- { "," strategy }
unfoldable pub more_arms : Counted Plan → Left (List Plan) → Rule (Left (List Plan))
more_arms strategy = loop (λ _. a (one Comma)) (one_arm strategy)

-- "(" strategy { "," strategy } ")"
unfoldable pub arms : Counted Plan → Counted (List Plan)
arms strategy left = do
  left ← counted (a (one LeftRound)) left
  first ← strategy left
  all ← more_arms strategy (behind [] first)
  left ← counted (a (one RightRound)) all.left
  pure (with_left left all.value)

-- "(" strategy ")"
unfoldable pub inside : Counted Plan → Counted Plan
inside strategy left = do
  left ← counted (a (one LeftRound)) left
  found ← strategy left
  left ← counted (a (one RightRound)) found.left
  pure (with_left left found.value)

-- ---- the kinds of steps

-- "id" | "fail"
unfoldable pub plain : Counted Plan
plain left =
    either (counted (a (one Id)) left >>= (λ left. pure (made plan.Id left)))
    (counted (a (one Fail)) left >>= (λ left. pure (made plan.Fail left)))

-- strategies in parentheses that stand there
abbrev pub some_of : Left (List Plan) → Left (Option (List Plan))
some_of all = with_left all.left (Some all.value)

-- [ "(" strategy { "," strategy } ")" ]
abbrev pub some_arms : Counted Plan → Counted (Option (List Plan))
some_arms strategy left =
    either (arms strategy left >>= (λ all. pure (some_of all))) (pure (with_left left None))

-- the name at a token, alone or over strategies
abbrev pub name_over : ℕ → Option (List Plan) → PlanNode
name_over at None = plan.Name at
name_over at (Some arms) = plan.Applied at arms

-- the same with what is left behind it
abbrev pub called : ℕ → Left (Option (List Plan)) → Left Plan
called at found = made (name_over at found.value) found.left

-- LABEL [ "(" strategy { "," strategy } ")" ]
unfoldable pub named : Counted Plan → Counted Plan
named strategy left = numbered called (counted (a labels) left >>= some_arms strategy)

-- all of the strategies
abbrev pub all_among : Left (List Plan) → Left Plan
all_among all = made (plan.All all.value) all.left

-- "dk" "(" strategy { "," strategy } ")"
unfoldable pub all_of : Counted Plan → Counted Plan
all_of strategy left = counted (a (one Dk)) left >>= (λ left. arms strategy left >>= (λ all. pure (all_among all)))

-- the first of the strategies, or the first item of it alone
abbrev pub first_among : Bool → Left (List Plan) → Left Plan
first_among alone all = made (plan.First alone all.value) all.left

-- "(" strategy { "," strategy } ")", of which the first is meant
abbrev pub first_arms : Bool → Counted Plan → Counted Plan
first_arms alone strategy left = arms strategy left >>= (λ all. pure (first_among alone all))

-- [ "one" ] "(" strategy { "," strategy } ")"
unfoldable pub alternatives : Counted Plan → Counted Plan
alternatives strategy left =
    either (counted (a (one One)) left >>= first_arms true strategy) (first_arms false strategy left)

-- ( "dc" | "first" ) [ "one" ] "(" strategy { "," strategy } ")"
unfoldable pub choice : Counted Plan → Counted Plan
choice strategy left = counted (a choices) left >>= alternatives strategy

-- a strategy in parentheses, of which this is made
abbrev pub wrapped : (Plan → PlanNode) → Counted Plan → Counted Plan
wrapped kind strategy left = inside strategy left >>= (λ found. pure (made (kind found.value) found.left))

-- "repeat" "*" "(" strategy ")"
unfoldable pub repeated : Counted Plan → Counted Plan
repeated strategy left = do
  left ← counted (a (one Repeat)) left
  left ← counted (a (one Star)) left
  wrapped plan.Repeat strategy left

-- ( "*" | "+" ) "(" strategy ")", behind `iterate`
unfoldable pub rounds : Counted Plan → Counted Plan
rounds strategy left =
    either (counted (a (one Star)) left >>= wrapped plan.Iterate strategy)
    (counted (a (one Plus)) left >>= wrapped plan.IteratePlus strategy)

-- "iterate" ( "*" | "+" ) "(" strategy ")"
unfoldable pub iterated : Counted Plan → Counted Plan
iterated strategy left = counted (a (one Iterate)) left >>= rounds strategy

-- "normalise" "(" strategy ")"
unfoldable pub normal : Counted Plan → Counted Plan
normal strategy left = counted (a (one Normalise)) left >>= wrapped plan.Normalise strategy

-- ---- strategies

-- step = "id" | "fail" | LABEL | "(" strategy ")"
--      | LABEL "(" strategy { "," strategy } ")"
--      | ( "dk" | "dc" | "first" ) "(" strategy { "," strategy } ")"
--      | ( "dc" | "first" ) "one" "(" strategy { "," strategy } ")"
--      | "repeat" "*" "(" strategy ")"
--      | "iterate" ( "*" | "+" ) "(" strategy ")"
--      | "normalise" "(" strategy ")"
unfoldable pub step : Counted Plan → Counted Plan
step strategy left =
    either (plain left)
    (either (named strategy left)
    (either (inside strategy left)
    (either (all_of strategy left)
    (either (choice strategy left)
    (either (repeated strategy left)
    (either (iterated strategy left) (normal strategy left)))))))

-- ";" step, behind those before it
abbrev pub one_step : Counted Plan → Left (List Plan) → Rule (Left (List Plan))
one_step strategy found = do
  left ← counted (a (one Semicolon)) found.left
  next ← step strategy left
  pure (behind found.value next)

-- { ";" step }
unfoldable pub more_steps : Counted Plan → Left (List Plan) → Rule (Left (List Plan))
more_steps strategy = loop (λ _. a (one Semicolon)) (one_step strategy)

-- one step is itself, and two or more are a sequence
abbrev pub in_turn : List Plan → Plan
in_turn (p ∷ []) = p
in_turn ps = record { node = plan.Seq ps }

-- the same with what is left behind them
abbrev pub turned : Left (List Plan) → Left Plan
turned all = with_left all.left (in_turn all.value)

-- step { ";" step }
unfoldable pub strategy_body : Counted Plan → Counted Plan
strategy_body strategy left = do
  first ← step strategy left
  all ← more_steps strategy (behind [] first)
  pure (turned all)

-- strategy = step { ";" step }; the number is how many tokens are left
unfoldable pub strategy : Counted Plan
strategy = nested (a begins_step) strategy_body

-- A strategy has at most so many tokens.
abbrev pub most_strategy_tokens : ℕ
most_strategy_tokens = 256

-- a strategy and its tokens
abbrev pub planned : ℕ → Left Plan → ℕ → Planned
planned first found past = record { at = span first past; plan = found.value }

-- a strategy, with its tokens
unfoldable pub strategy_plan : Rule Planned
strategy_plan = placed planned (strategy most_strategy_tokens)

-- [ strategy ]
unfoldable pub some_strategy : Rule (Option Planned)
some_strategy = optional strategy_plan
