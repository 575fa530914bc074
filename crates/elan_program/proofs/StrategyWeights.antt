-- The weight of a strategy, at plain lists.
use Rattle.std.proofs.Common.{◌≡◌, refl, ◌∙◌, ap, ℕ, ◌+◌, Bool, List, [], ◌∷◌, map}
use Rattle.elan_terms.specs.Weight.{total}
use Rattle.elan_terms.specs.declared.tree.OpId.{OpId}
use Rattle.elan_terms.specs.declared.tree.SortId.{SortId}
use Rattle.elan_program.specs.declared.strategy.Strategy.{Strategy}
use Rattle.elan_program.specs.declared.strategy.StrategyNode.TheVariants as made
use Rattle.elan_program.specs.Strategies.{strategy_weight, strategy_weights, weight_at, totals}
use Rattle.elan_program.proofs.StrategyLemmas.{para-call, para-cong, para-seq, para-all, para-first, para-repeat, para-iterate, para-iterate_plus, para-normalise}

own_totals : (f : Strategy → ℕ) (ss : List Strategy) → totals (map (λ s. (s, f s)) ss) ≡ total (map f ss)
own_totals f [] = refl
own_totals f (s ∷ ss) = ap (λ r. 1 + f s + r) (own_totals f ss)

module _ (s : Strategy) where
  pub weight-call : (number : ℕ) (arms : List Strategy) → s.node ≡ made.Call number arms → strategy_weight s ≡ 1 + strategy_weights arms
  unfolding strategy_weight
  weight-call number arms e = ap (λ i. strategy_weight (record { node = i })) e ∙ para-call weight_at number arms ∙ ap (λ r. 1 + r) (own_totals strategy_weight arms)

  pub weight-cong : (op : OpId) (arms : List Strategy) → s.node ≡ made.Cong op arms → strategy_weight s ≡ 1 + strategy_weights arms
  unfolding strategy_weight
  weight-cong op arms e = ap (λ i. strategy_weight (record { node = i })) e ∙ para-cong weight_at op arms ∙ ap (λ r. 1 + r) (own_totals strategy_weight arms)

  pub weight-seq : (arms : List Strategy) → s.node ≡ made.Seq arms → strategy_weight s ≡ 1 + strategy_weights arms
  unfolding strategy_weight
  weight-seq arms e = ap (λ i. strategy_weight (record { node = i })) e ∙ para-seq weight_at arms ∙ ap (λ r. 1 + r) (own_totals strategy_weight arms)

  pub weight-all : (arms : List Strategy) → s.node ≡ made.All arms → strategy_weight s ≡ 1 + strategy_weights arms
  unfolding strategy_weight
  weight-all arms e = ap (λ i. strategy_weight (record { node = i })) e ∙ para-all weight_at arms ∙ ap (λ r. 1 + r) (own_totals strategy_weight arms)

  pub weight-first : (one : Bool) (arms : List Strategy) → s.node ≡ made.First one arms → strategy_weight s ≡ 1 + strategy_weights arms
  unfolding strategy_weight
  weight-first one arms e = ap (λ i. strategy_weight (record { node = i })) e ∙ para-first weight_at one arms ∙ ap (λ r. 1 + r) (own_totals strategy_weight arms)

module _ (s inner : Strategy) where
  pub weight-repeat : s.node ≡ made.Repeat inner → strategy_weight s ≡ 1 + strategy_weight inner
  unfolding strategy_weight
  weight-repeat e = ap (λ i. strategy_weight (record { node = i })) e ∙ para-repeat weight_at inner

  pub weight-iterate : s.node ≡ made.Iterate inner → strategy_weight s ≡ 1 + strategy_weight inner
  unfolding strategy_weight
  weight-iterate e = ap (λ i. strategy_weight (record { node = i })) e ∙ para-iterate weight_at inner

  pub weight-iterate_plus : s.node ≡ made.IteratePlus inner → strategy_weight s ≡ 1 + strategy_weight inner
  unfolding strategy_weight
  weight-iterate_plus e = ap (λ i. strategy_weight (record { node = i })) e ∙ para-iterate_plus weight_at inner

  pub weight-normalise : (sort : SortId) → s.node ≡ made.Normalise sort inner → strategy_weight s ≡ 1 + strategy_weight inner
  unfolding strategy_weight
  weight-normalise sort e = ap (λ i. strategy_weight (record { node = i })) e ∙ para-normalise weight_at sort inner

pub ruleset strategy_falls = (weight-call, weight-cong, weight-seq, weight-all, weight-first, weight-repeat, weight-iterate, weight-iterate_plus, weight-normalise)
