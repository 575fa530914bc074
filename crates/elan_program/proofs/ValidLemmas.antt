-- The equations of the validity of strategies.
use Rattle.std.proofs.Common.{◌≡◌, refl, ap, ◌∙◌, ℕ, suc, Bool, true, false, ◌&&◌, List, [], ◌∷◌, length, map}
use Rattle.std.specs.Prelude.{Option, Some, None, slice_get}
use Rattle.std.specs.List.{list_all}
use Rattle.elan_terms.specs.declared.tree.OpId.{OpId}
use Rattle.elan_terms.specs.declared.tree.SortId.{SortId}
use Rattle.elan_program.specs.declared.program.Parts.{Parts}
use Rattle.elan_program.specs.declared.strategy.Scope.{Scope}
use Rattle.elan_program.specs.declared.strategy.Strategy.{Strategy}
use Rattle.elan_program.specs.declared.strategy.StrategyNode.TheVariants as made
use Rattle.elan_program.specs.Soundness.{same_sort, is_some_list}
use Rattle.elan_program.specs.Validity.{is_valid_strategy, is_valid_layer, is_valid_label, is_named_for, is_valid_param, congruence_fits, each_fits, congruent_sorts}
use Rattle.elan_program.proofs.StrategyLemmas.{para-call, para-cong, para-seq, para-all, para-first, para-repeat, para-iterate, para-iterate_plus, para-normalise}
use Rattle.elan_program.proofs.StrategyWeights.{strategy_falls}

-- ---- what each strategy says, beside it

own_length : (f : Strategy → SortId → Bool) (ss : List Strategy) → length (map {B = Strategy × (SortId → Bool)} (λ s. (s, f s)) ss) ≡ length ss
own_length f [] = refl
own_length f (s ∷ ss) = ap (λ n. suc n) (own_length f ss)

own_all : (f : Strategy → SortId → Bool) (sort : SortId) (ss : List Strategy)
    → list_all (λ s. s.1 sort) (map {B = Strategy × (SortId → Bool)} (λ s. (s, f s)) ss) ≡ list_all (λ s. f s sort) ss
own_all f sort [] = refl
own_all f sort (s ∷ ss) = ap (λ r. f s sort && r) (own_all f sort ss)

own_each : (f : Strategy → SortId → Bool) (ss : List Strategy) (sorts : List SortId)
    → each_fits {A = Strategy × (SortId → Bool)} (λ s. s.1) (map (λ s. (s, f s)) ss) sorts ≡ each_fits f ss sorts
own_each f [] [] = refl
own_each f [] (sort ∷ sorts) = refl
own_each f (s ∷ ss) [] = refl
own_each f (s ∷ ss) (sort ∷ sorts) = ap (λ r. f s sort && r) (own_each f ss sorts)

own_some : (f : Strategy → SortId → Bool) (ss : List Strategy) → is_some_list (map {B = Strategy × (SortId → Bool)} (λ s. (s, f s)) ss) ≡ is_some_list ss
own_some f [] = refl
own_some f (s ∷ ss) = refl

own_fits : (f : Strategy → SortId → Bool) (ss : List Strategy) (sorts : Option (List SortId))
    → congruence_fits {A = Strategy × (SortId → Bool)} (λ s. s.1) (map (λ s. (s, f s)) ss) sorts ≡ congruence_fits f ss sorts
own_fits f ss None = refl
own_fits f ss (Some sorts) =
    ap (λ b. b && each_fits {A = Strategy × (SortId → Bool)} (λ s. s.1) (map (λ s. (s, f s)) ss) sorts) (own_some f ss)
    ∙ ap (λ b. is_some_list ss && b) (own_each f ss sorts)

-- ---- the kinds of strategy

module _ (p : Parts) (scope : Scope) where
  abbrev valid : Strategy → SortId → Bool
  valid = is_valid_strategy p scope

  module _ (s : Strategy) (sort : SortId) where
    pub valid-id : s.node ≡ made.Id → valid s sort ≡ true
    unfolding is_valid_strategy
    valid-id e = ap (λ i. valid (record { node = i }) sort) e

    pub valid-fail : s.node ≡ made.Fail → valid s sort ≡ true
    unfolding is_valid_strategy
    valid-fail e = ap (λ i. valid (record { node = i }) sort) e

    pub valid-label : (numbers : List ℕ) → s.node ≡ made.Label numbers
        → valid s sort ≡ is_valid_label p.rules sort numbers
    unfolding is_valid_strategy
    valid-label numbers e = ap (λ i. valid (record { node = i }) sort) e

    pub valid-call : (number : ℕ) (ss : List Strategy) → s.node ≡ made.Call number ss
        → valid s sort ≡ (is_named_for sort (length ss) (slice_get p.named number) && list_all (λ a. valid a sort) ss)
    unfolding is_valid_strategy
    valid-call number ss e =
        ap (λ i. valid (record { node = i }) sort) e ∙ ap (λ f. f sort) (para-call (is_valid_layer p scope) number ss)
        ∙ ap (λ n. is_named_for sort n (slice_get p.named number) && list_all (λ a. a.1 sort) (map {B = Strategy × (SortId → Bool)} (λ a. (a, valid a)) ss)) (own_length valid ss)
        ∙ ap (λ b. is_named_for sort (length ss) (slice_get p.named number) && b) (own_all valid sort ss)

    pub valid-param : (number : ℕ) → s.node ≡ made.Param number → valid s sort ≡ is_valid_param scope sort number
    unfolding is_valid_strategy
    valid-param number e = ap (λ i. valid (record { node = i }) sort) e

    pub valid-seq : (ss : List Strategy) → s.node ≡ made.Seq ss → valid s sort ≡ list_all (λ a. valid a sort) ss
    unfolding is_valid_strategy
    valid-seq ss e =
        ap (λ i. valid (record { node = i }) sort) e ∙ ap (λ f. f sort) (para-seq (is_valid_layer p scope) ss)
        ∙ own_all valid sort ss

    pub valid-all : (ss : List Strategy) → s.node ≡ made.All ss → valid s sort ≡ list_all (λ a. valid a sort) ss
    unfolding is_valid_strategy
    valid-all ss e =
        ap (λ i. valid (record { node = i }) sort) e ∙ ap (λ f. f sort) (para-all (is_valid_layer p scope) ss)
        ∙ own_all valid sort ss

    pub valid-first : (one : Bool) (ss : List Strategy) → s.node ≡ made.First one ss
        → valid s sort ≡ list_all (λ a. valid a sort) ss
    unfolding is_valid_strategy
    valid-first one ss e =
        ap (λ i. valid (record { node = i }) sort) e ∙ ap (λ f. f sort) (para-first (is_valid_layer p scope) one ss)
        ∙ own_all valid sort ss

    pub valid-repeat : (inner : Strategy) → s.node ≡ made.Repeat inner → valid s sort ≡ valid inner sort
    unfolding is_valid_strategy
    valid-repeat inner e =
        ap (λ i. valid (record { node = i }) sort) e ∙ ap (λ f. f sort) (para-repeat (is_valid_layer p scope) inner)

    pub valid-iterate : (inner : Strategy) → s.node ≡ made.Iterate inner → valid s sort ≡ valid inner sort
    unfolding is_valid_strategy
    valid-iterate inner e =
        ap (λ i. valid (record { node = i }) sort) e ∙ ap (λ f. f sort) (para-iterate (is_valid_layer p scope) inner)

    pub valid-iterate_plus : (inner : Strategy) → s.node ≡ made.IteratePlus inner → valid s sort ≡ valid inner sort
    unfolding is_valid_strategy
    valid-iterate_plus inner e =
        ap (λ i. valid (record { node = i }) sort) e ∙ ap (λ f. f sort) (para-iterate_plus (is_valid_layer p scope) inner)

    pub valid-normalise : (place : SortId) (inner : Strategy) → s.node ≡ made.Normalise place inner
        → valid s sort ≡ (same_sort place sort && valid inner sort)
    unfolding is_valid_strategy
    valid-normalise place inner e =
        ap (λ i. valid (record { node = i }) sort) e
        ∙ ap (λ f. f sort) (para-normalise (is_valid_layer p scope) place inner)

    pub valid-cong : (op : OpId) (ss : List Strategy) → s.node ≡ made.Cong op ss
        → valid s sort ≡ congruence_fits valid ss (congruent_sorts (slice_get p.signature.operators op.0))
    unfolding is_valid_strategy
    valid-cong op ss e =
        ap (λ i. valid (record { node = i }) sort) e ∙ ap (λ f. f sort) (para-cong (is_valid_layer p scope) op ss)
        ∙ own_fits valid ss (congruent_sorts (slice_get p.signature.operators op.0))

    -- ---- the same after a test

    pub valid-normalise-there : (place : SortId) (inner : Strategy) → s.node ≡ made.Normalise place inner
        → same_sort place sort ≡ true → valid s sort ≡ valid inner sort
    valid-normalise-there place inner e same = valid-normalise place inner e ∙ ap (λ b. b && valid inner sort) same

    pub valid-normalise-elsewhere : (place : SortId) (inner : Strategy) → s.node ≡ made.Normalise place inner
        → same_sort place sort ≡ false → valid s sort ≡ false
    valid-normalise-elsewhere place inner e other = valid-normalise place inner e ∙ ap (λ b. b && valid inner sort) other

    pub valid-call-there : (number : ℕ) (ss : List Strategy) → s.node ≡ made.Call number ss
        → is_named_for sort (length ss) (slice_get p.named number) ≡ true → valid s sort ≡ list_all (λ a. valid a sort) ss
    valid-call-there number ss e there = valid-call number ss e ∙ ap (λ b. b && list_all (λ a. valid a sort) ss) there

    pub valid-call-elsewhere : (number : ℕ) (ss : List Strategy) → s.node ≡ made.Call number ss
        → is_named_for sort (length ss) (slice_get p.named number) ≡ false → valid s sort ≡ false
    valid-call-elsewhere number ss e other = valid-call number ss e ∙ ap (λ b. b && list_all (λ a. valid a sort) ss) other

pub ruleset strategy_rules = (
  strategy_falls,
  valid-id,
  valid-fail,
  valid-label,
  valid-call-there,
  valid-call-elsewhere,
  valid-param,
  valid-seq,
  valid-all,
  valid-first,
  valid-repeat,
  valid-iterate,
  valid-iterate_plus,
  valid-normalise-there,
  valid-normalise-elsewhere,
  valid-cong,
)
