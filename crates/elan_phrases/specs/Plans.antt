-- Recursion over plans, in which the arms are a plain list.
use Rattle.std.specs.Prelude.{ℕ, ◌+◌, List, [], ◌∷◌, map}
use Rattle.elan_phrases.specs.declared.plan.Plan.{Plan}
use Rattle.elan_phrases.specs.declared.plan.PlanNode.{PlanNode, PlanNode-F, Row_of-Plan, end_of-Plan, more_of-Plan}
use Rattle.elan_phrases.specs.declared.plan.PlanNode.TheVariants as node
use Rattle.elan_phrases.specs.declared.plan.PlanNode.TheOpen.{PlanNode-F as layer}

-- one level of a plan, with an X in the place of each plan inside
abbrev pub Layer : Type 0 → Type 0
Layer X = PlanNode-F PlanNode X

-- `step` gets a level with what each plan inside gave
module _ {A : Type 0} (step : Layer A → A) where
  abbrev mutual
    pub fold_node : PlanNode → A
    fold_node node.Id = step layer.Id
    fold_node node.Fail = step layer.Fail
    fold_node (node.Name t) = step (layer.Name t)
    fold_node (node.Applied' t shape row) = step (layer.Applied t (fold_row row))
    fold_node (node.Seq' shape row) = step (layer.Seq (fold_row row))
    fold_node (node.All' shape row) = step (layer.All (fold_row row))
    fold_node (node.First' one shape row) = step (layer.First one (fold_row row))
    fold_node (node.Repeat' shape (more_of-Plan p end_of-Plan)) = step (layer.Repeat (fold_node p))
    fold_node (node.Iterate' shape (more_of-Plan p end_of-Plan)) = step (layer.Iterate (fold_node p))
    fold_node (node.IteratePlus' shape (more_of-Plan p end_of-Plan)) = step (layer.IteratePlus (fold_node p))
    fold_node (node.Normalise' shape (more_of-Plan p end_of-Plan)) = step (layer.Normalise (fold_node p))

    pub fold_row : {n : _} → Row_of-Plan n → List A
    fold_row end_of-Plan = []
    fold_row (more_of-Plan p rest) = fold_node p ∷ fold_row rest

-- the same of a whole plan
abbrev pub fold_plan : {A : Type 0} → (Layer A → A) → Plan → A
fold_plan step p = fold_node step p.node

-- ---- a measure

-- the sum of numbers, and one more for each
abbrev pub total : List ℕ → ℕ
total [] = 0
total (n ∷ ns) = 1 + n + total ns

-- one more than the plans in it weigh, and one for each
abbrev pub weight_at : Layer ℕ → ℕ
weight_at (layer.Applied t ns) = 1 + total ns
weight_at (layer.Seq ns) = 1 + total ns
weight_at (layer.All ns) = 1 + total ns
weight_at (layer.First one ns) = 1 + total ns
weight_at (layer.Repeat n) = 1 + n
weight_at (layer.Iterate n) = 1 + n
weight_at (layer.IteratePlus n) = 1 + n
weight_at (layer.Normalise n) = 1 + n
weight_at _ = 1

-- a number that falls with each step down a plan
unfoldable pub plan_weight : Plan → ℕ
plan_weight = fold_plan weight_at

-- a number that falls along a list of plans
abbrev pub plan_weights : List Plan → ℕ
plan_weights ps = total (map plan_weight ps)
