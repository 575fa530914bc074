-- The equations of a recursion over plans, and what they weigh.
use Rattle.std.proofs.Common.{◌≡◌, refl, ap, ◌∙◌, ℕ, ◌+◌, Bool, List, ◌∷◌, map}
use denote.Hole.Carrier.{hidden}
use Rattle.elan_phrases.specs.declared.plan.Plan.{Plan}
use Rattle.elan_phrases.specs.declared.plan.PlanNode.{PlanNode, Row_of-Plan, end_of-Plan, more_of-Plan, items-the_row-Plan, items_hidden-the_row-Plan-0}
use Rattle.elan_phrases.specs.declared.plan.PlanNode.TheBlock.{shape-the_row-Plan-0, hidden-the_row-Plan-0, shown-the_row-Plan-0, shape-the_row-Plan-1, hidden-the_row-Plan-1}
use Rattle.elan_phrases.specs.declared.plan.PlanNode.TheVariants as node
use Rattle.elan_phrases.specs.declared.plan.PlanNode.TheOpen.{PlanNode-F as layer}
use Rattle.elan_phrases.specs.Plans.{Layer, fold_node, fold_row, fold_plan, plan_weight, plan_weights, weight_at}

module _ {A : Type 0} (step : Layer A → A) where
  fold_row-items : {n : _} (row : Row_of-Plan n) → fold_row step row ≡ map (fold_plan step) (items-the_row-Plan n row)
  fold_row-items end_of-Plan = refl
  fold_row-items (more_of-Plan p rest) = ap (λ r. fold_node step p ∷ r) (fold_row-items rest)

  fold_row-hidden : (ps : List Plan) → fold_row step (hidden-the_row-Plan-0 ps) ≡ map (fold_plan step) ps
  fold_row-hidden ps = fold_row-items (hidden-the_row-Plan-0 ps) ∙ ap (map (fold_plan step)) (items_hidden-the_row-Plan-0 ps)

  module _ (p : Plan) where
    at : {i : PlanNode} → p.node ≡ i → fold_plan step p ≡ fold_node step i
    at e = ap (fold_node step) e

    pub fold-applied : (t : ℕ) (ps : List Plan) → p.node ≡ node.Applied t ps → fold_plan step p ≡ step (layer.Applied t (map (fold_plan step) ps))
    fold-applied t ps e = at e ∙ ap (λ r. step (layer.Applied t r)) (fold_row-hidden ps)

    pub fold-seq : (ps : List Plan) → p.node ≡ node.Seq ps → fold_plan step p ≡ step (layer.Seq (map (fold_plan step) ps))
    fold-seq ps e = at e ∙ ap (λ r. step (layer.Seq r)) (fold_row-hidden ps)

    pub fold-all : (ps : List Plan) → p.node ≡ node.All ps → fold_plan step p ≡ step (layer.All (map (fold_plan step) ps))
    fold-all ps e = at e ∙ ap (λ r. step (layer.All r)) (fold_row-hidden ps)

    pub fold-first : (one : Bool) (ps : List Plan) → p.node ≡ node.First one ps → fold_plan step p ≡ step (layer.First one (map (fold_plan step) ps))
    fold-first one ps e = at e ∙ ap (λ r. step (layer.First one r)) (fold_row-hidden ps)

    pub fold-repeat : (q : Plan) → p.node ≡ node.Repeat q → fold_plan step p ≡ step (layer.Repeat (fold_plan step q))
    unfolding shape-the_row-Plan-0 hidden-the_row-Plan-0 shown-the_row-Plan-0 shape-the_row-Plan-1 hidden-the_row-Plan-1 hidden
    fold-repeat q e = at e

    pub fold-iterate : (q : Plan) → p.node ≡ node.Iterate q → fold_plan step p ≡ step (layer.Iterate (fold_plan step q))
    unfolding shape-the_row-Plan-0 hidden-the_row-Plan-0 shown-the_row-Plan-0 shape-the_row-Plan-1 hidden-the_row-Plan-1 hidden
    fold-iterate q e = at e

    pub fold-iterate_plus : (q : Plan) → p.node ≡ node.IteratePlus q → fold_plan step p ≡ step (layer.IteratePlus (fold_plan step q))
    unfolding shape-the_row-Plan-0 hidden-the_row-Plan-0 shown-the_row-Plan-0 shape-the_row-Plan-1 hidden-the_row-Plan-1 hidden
    fold-iterate_plus q e = at e

    pub fold-normalise : (q : Plan) → p.node ≡ node.Normalise q → fold_plan step p ≡ step (layer.Normalise (fold_plan step q))
    unfolding shape-the_row-Plan-0 hidden-the_row-Plan-0 shown-the_row-Plan-0 shape-the_row-Plan-1 hidden-the_row-Plan-1 hidden
    fold-normalise q e = at e

-- ---- weights

module _ (p : Plan) where
  pub weight-applied : (t : ℕ) (ps : List Plan) → p.node ≡ node.Applied t ps → plan_weight p ≡ 1 + plan_weights ps
  unfolding plan_weight
  weight-applied t ps e = fold-applied weight_at p t ps e

  pub weight-seq : (ps : List Plan) → p.node ≡ node.Seq ps → plan_weight p ≡ 1 + plan_weights ps
  unfolding plan_weight
  weight-seq ps e = fold-seq weight_at p ps e

  pub weight-all : (ps : List Plan) → p.node ≡ node.All ps → plan_weight p ≡ 1 + plan_weights ps
  unfolding plan_weight
  weight-all ps e = fold-all weight_at p ps e

  pub weight-first : (one : Bool) (ps : List Plan) → p.node ≡ node.First one ps → plan_weight p ≡ 1 + plan_weights ps
  unfolding plan_weight
  weight-first one ps e = fold-first weight_at p one ps e

  pub weight-repeat : (q : Plan) → p.node ≡ node.Repeat q → plan_weight p ≡ 1 + plan_weight q
  unfolding plan_weight
  weight-repeat q e = fold-repeat weight_at p q e

  pub weight-iterate : (q : Plan) → p.node ≡ node.Iterate q → plan_weight p ≡ 1 + plan_weight q
  unfolding plan_weight
  weight-iterate q e = fold-iterate weight_at p q e

  pub weight-iterate_plus : (q : Plan) → p.node ≡ node.IteratePlus q → plan_weight p ≡ 1 + plan_weight q
  unfolding plan_weight
  weight-iterate_plus q e = fold-iterate_plus weight_at p q e

  pub weight-normalise : (q : Plan) → p.node ≡ node.Normalise q → plan_weight p ≡ 1 + plan_weight q
  unfolding plan_weight
  weight-normalise q e = fold-normalise weight_at p q e

pub ruleset plan_falls = (weight-applied, weight-seq, weight-all, weight-first, weight-repeat, weight-iterate, weight-iterate_plus, weight-normalise)
