-- The equations of a recursion over strategies.
use Rattle.std.proofs.Common.{◌≡◌, refl, ap, ◌∙◌, ℕ, Bool, List, ◌∷◌, map}
use denote.Hole.Carrier.{hidden}
use Rattle.elan_terms.specs.declared.tree.OpId.{OpId}
use Rattle.elan_terms.specs.declared.tree.SortId.{SortId}
use Rattle.elan_program.specs.declared.strategy.Strategy.{Strategy}
use Rattle.elan_program.specs.declared.strategy.StrategyNode.{Row_of-Strategy, end_of-Strategy, more_of-Strategy, items-the_row-Strategy, items_hidden-the_row-Strategy-0}
use Rattle.elan_program.specs.declared.strategy.StrategyNode.TheBlock.{shape-the_row-Strategy-0, hidden-the_row-Strategy-0, shown-the_row-Strategy-0, shape-the_row-Strategy-1, hidden-the_row-Strategy-1}
use Rattle.elan_program.specs.declared.strategy.StrategyNode.TheVariants as node
use Rattle.elan_program.specs.declared.strategy.StrategyNode.TheOpen.{StrategyNode-F as layer}
use Rattle.elan_program.specs.Strategies.{Layer, para_node, para_row, para_strategy}

module _ {A : Type 0} (step : Layer (Strategy × A) → A) where
  abbrev pub with_own : Strategy → Strategy × A
  with_own s = (s, para_strategy step s)

  para_row-items : {n : _} (row : Row_of-Strategy n) → para_row step row ≡ map with_own (items-the_row-Strategy n row)
  para_row-items end_of-Strategy = refl
  para_row-items (more_of-Strategy s rest) = ap (λ r. (record { node = s }, para_node step s) ∷ r) (para_row-items rest)

  para_row-hidden : (ss : List Strategy) → para_row step (hidden-the_row-Strategy-0 ss) ≡ map with_own ss
  para_row-hidden ss = para_row-items (hidden-the_row-Strategy-0 ss) ∙ ap (map with_own) (items_hidden-the_row-Strategy-0 ss)

  pub para-call : (number : ℕ) (ss : List Strategy) → para_node step (node.Call number ss) ≡ step (layer.Call number (map with_own ss))
  para-call number ss = ap (λ r. step (layer.Call number r)) (para_row-hidden ss)

  pub para-cong : (op : OpId) (ss : List Strategy) → para_node step (node.Cong op ss) ≡ step (layer.Cong op (map with_own ss))
  para-cong op ss = ap (λ r. step (layer.Cong op r)) (para_row-hidden ss)

  pub para-seq : (ss : List Strategy) → para_node step (node.Seq ss) ≡ step (layer.Seq (map with_own ss))
  para-seq ss = ap (λ r. step (layer.Seq r)) (para_row-hidden ss)

  pub para-all : (ss : List Strategy) → para_node step (node.All ss) ≡ step (layer.All (map with_own ss))
  para-all ss = ap (λ r. step (layer.All r)) (para_row-hidden ss)

  pub para-first : (one : Bool) (ss : List Strategy) → para_node step (node.First one ss) ≡ step (layer.First one (map with_own ss))
  para-first one ss = ap (λ r. step (layer.First one r)) (para_row-hidden ss)

  pub para-repeat : (s : Strategy) → para_node step (node.Repeat s) ≡ step (layer.Repeat (with_own s))
  unfolding shape-the_row-Strategy-0 hidden-the_row-Strategy-0 shown-the_row-Strategy-0 shape-the_row-Strategy-1 hidden-the_row-Strategy-1 hidden
  para-repeat s = refl

  pub para-iterate : (s : Strategy) → para_node step (node.Iterate s) ≡ step (layer.Iterate (with_own s))
  unfolding shape-the_row-Strategy-0 hidden-the_row-Strategy-0 shown-the_row-Strategy-0 shape-the_row-Strategy-1 hidden-the_row-Strategy-1 hidden
  para-iterate s = refl

  pub para-iterate_plus : (s : Strategy) → para_node step (node.IteratePlus s) ≡ step (layer.IteratePlus (with_own s))
  unfolding shape-the_row-Strategy-0 hidden-the_row-Strategy-0 shown-the_row-Strategy-0 shape-the_row-Strategy-1 hidden-the_row-Strategy-1 hidden
  para-iterate_plus s = refl

  pub para-normalise : (sort : SortId) (s : Strategy) → para_node step (node.Normalise sort s) ≡ step (layer.Normalise sort (with_own s))
  unfolding shape-the_row-Strategy-0 hidden-the_row-Strategy-0 shown-the_row-Strategy-0 shape-the_row-Strategy-1 hidden-the_row-Strategy-1 hidden
  para-normalise sort s = refl
