-- Recursion over strategies, with the arms as a plain list, and parameters replaced by actuals.
use Rattle.std.specs.Prelude.{ℕ, ◌+◌, Option, Some, None, List, [], ◌∷◌, map, slice_get}
use Rattle.elan_terms.specs.Weight.{total}
use Rattle.elan_program.specs.declared.strategy.Strategy.{Strategy}
use Rattle.elan_program.specs.declared.strategy.StrategyNode.{StrategyNode, StrategyNode-F, Row_of-Strategy, end_of-Strategy, more_of-Strategy}
use Rattle.elan_program.specs.declared.strategy.StrategyNode.TheVariants as node
use Rattle.elan_program.specs.declared.strategy.StrategyNode.TheOpen.{StrategyNode-F as layer}

-- one level of a strategy, with an X in the place of each strategy inside
abbrev pub Layer : Type 0 → Type 0
Layer X = StrategyNode-F StrategyNode X

-- `step` gets a level with each strategy inside beside what it gave
module _ {A : Type 0} (step : Layer (Strategy × A) → A) where
  abbrev mutual
    pub para_node : StrategyNode → A
    para_node node.Id = step layer.Id
    para_node node.Fail = step layer.Fail
    para_node (node.Label rules) = step (layer.Label rules)
    para_node (node.Call' number shape row) = step (layer.Call number (para_row row))
    para_node (node.Param number) = step (layer.Param number)
    para_node (node.Seq' shape row) = step (layer.Seq (para_row row))
    para_node (node.All' shape row) = step (layer.All (para_row row))
    para_node (node.First' one shape row) = step (layer.First one (para_row row))
    para_node (node.Repeat' shape (more_of-Strategy s end_of-Strategy)) =
        step (layer.Repeat (record { node = s }, para_node s))
    para_node (node.Iterate' shape (more_of-Strategy s end_of-Strategy)) =
        step (layer.Iterate (record { node = s }, para_node s))
    para_node (node.IteratePlus' shape (more_of-Strategy s end_of-Strategy)) =
        step (layer.IteratePlus (record { node = s }, para_node s))
    para_node (node.Normalise' sort shape (more_of-Strategy s end_of-Strategy)) =
        step (layer.Normalise sort (record { node = s }, para_node s))
    para_node (node.Cong' op shape row) = step (layer.Cong op (para_row row))

    pub para_row : {n : _} → Row_of-Strategy n → List (Strategy × A)
    para_row end_of-Strategy = []
    para_row (more_of-Strategy s rest) = (record { node = s }, para_node s) ∷ para_row rest

-- the same of a whole strategy
abbrev pub para_strategy : {A : Type 0} → (Layer (Strategy × A) → A) → Strategy → A
para_strategy step s = para_node step s.node

-- ---- what a recursion has of a list of strategies

-- the strategies
abbrev pub firsts : {A : Type 0} → List (Strategy × A) → List Strategy
firsts [] = []
firsts (s ∷ ss) = s.0 ∷ firsts ss

-- what they gave
abbrev pub seconds : {A : Type 0} → List (Strategy × A) → List A
seconds [] = []
seconds (s ∷ ss) = s.1 ∷ seconds ss

-- ---- parameters replaced by actuals

-- a node as a strategy
abbrev pub made : StrategyNode → Strategy
made n = record { node = n }

-- the actual of a parameter; where it is missing, the parameter itself
abbrev pub actual_or : ℕ → Option Strategy → Strategy
actual_or number None = made (node.Param number)
actual_or number (Some s) = s

-- one level, in which the strategies inside have their actuals
abbrev pub replaced : List Strategy → Layer (Strategy × Strategy) → Strategy
replaced actuals layer.Id = made node.Id
replaced actuals layer.Fail = made node.Fail
replaced actuals (layer.Label rules) = made (node.Label rules)
replaced actuals (layer.Call number ss) = made (node.Call number (seconds ss))
replaced actuals (layer.Param number) = actual_or number (slice_get actuals number)
replaced actuals (layer.Seq ss) = made (node.Seq (seconds ss))
replaced actuals (layer.All ss) = made (node.All (seconds ss))
replaced actuals (layer.First one ss) = made (node.First one (seconds ss))
replaced actuals (layer.Repeat s) = made (node.Repeat s.1)
replaced actuals (layer.Iterate s) = made (node.Iterate s.1)
replaced actuals (layer.IteratePlus s) = made (node.IteratePlus s.1)
replaced actuals (layer.Normalise sort s) = made (node.Normalise sort s.1)
replaced actuals (layer.Cong op ss) = made (node.Cong op (seconds ss))

-- A strategy in which each parameter is replaced by the actual of its number, in the arguments of
-- congruences and in the actuals of calls as well. A parameter without an actual stays.
unfoldable pub with_actuals : List Strategy → Strategy → Strategy
with_actuals actuals = para_strategy (replaced actuals)

-- ---- a measure

-- the weights beside strategies, and one more for each
abbrev pub totals : List (Strategy × ℕ) → ℕ
totals [] = 0
totals (n ∷ ns) = 1 + n.1 + totals ns

-- one more than the strategies in it weigh
abbrev pub weight_at : Layer (Strategy × ℕ) → ℕ
weight_at (layer.Call number ss) = 1 + totals ss
weight_at (layer.Seq ss) = 1 + totals ss
weight_at (layer.All ss) = 1 + totals ss
weight_at (layer.First one ss) = 1 + totals ss
weight_at (layer.Repeat s) = 1 + s.1
weight_at (layer.Iterate s) = 1 + s.1
weight_at (layer.IteratePlus s) = 1 + s.1
weight_at (layer.Normalise sort s) = 1 + s.1
weight_at (layer.Cong op ss) = 1 + totals ss
weight_at _ = 1

-- a number that falls with each step down a strategy
unfoldable pub strategy_weight : Strategy → ℕ
strategy_weight = para_strategy weight_at

-- a number that falls along a list of strategies
abbrev pub strategy_weights : List Strategy → ℕ
strategy_weights ss = total (map strategy_weight ss)
