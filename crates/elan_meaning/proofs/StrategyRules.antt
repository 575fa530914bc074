-- The equations of strategies at one level of meaning, at plain lists.
use Rattle.std.proofs.Common.{◌≡◌, refl, ◌∙◌, ap, ℕ, ℤ, Bool, List, [], ◌∷◌, ◌++◌, map}
use Rattle.std.specs.Prelude.{slice_get}
use Rattle.std.specs.List.{flat_map}
use Rattle.elan_terms.specs.declared.tree.OpId.{OpId}
use Rattle.elan_terms.specs.declared.tree.SortId.{SortId}
use Rattle.elan_terms.specs.declared.tree.Term.{Term}
use Rattle.elan_terms.specs.declared.tree.TermNode as term
use Rattle.elan_terms.specs.declared.tree.TermNode.{items_hidden-the_row-Term-0}
use Rattle.elan_terms.specs.Trees.{case_term}
use Rattle.elan_program.specs.declared.strategy.Strategy.{Strategy}
use Rattle.elan_program.specs.declared.strategy.StrategyNode.TheVariants as made
use Rattle.elan_program.specs.declared.program.Program.{Program}
use Rattle.elan_program.specs.Strategies.{firsts, seconds}
use Rattle.elan_program.proofs.StrategyLemmas.{para-call, para-cong, para-seq, para-all, para-first, para-repeat, para-iterate, para-iterate_plus, para-normalise}
use Rattle.elan_meaning.specs.declared.item.Item.TheVariants.{Res}
use Rattle.elan_meaning.specs.Items.{on_results, first_of, chosen, sequence}
use Rattle.elan_meaning.specs.Meaning as meaning
use Rattle.elan_meaning.specs.Meaning.{Meaning}

-- ---- what each arm gave, beside the arm

own_first : {X : Type 0} (f : Strategy → X) (xs : List Strategy) → firsts (map (λ s. (s, f s)) xs) ≡ xs
own_first f [] = refl
own_first f (x ∷ xs) = ap (λ r. x ∷ r) (own_first f xs)

own_second : {X : Type 0} (f : Strategy → X) (xs : List Strategy) → seconds (map (λ s. (s, f s)) xs) ≡ map f xs
own_second f [] = refl
own_second f (x ∷ xs) = ap (λ r. f x ∷ r) (own_second f xs)

own_each : {A X Y : Type 0} (f : A → X) (g : X → Y) (xs : List A) → map {A = A × X} (λ s. g s.1) (map (λ s. (s, f s)) xs) ≡ map (λ s. g (f s)) xs
own_each f g [] = refl
own_each f g (x ∷ xs) = ap (λ r. g (f x) ∷ r) (own_each f g xs)

own_joined : {A X Y : Type 0} (f : A → X) (g : X → List Y) (xs : List A) → flat_map {X = A × X} (λ s. g s.1) (map (λ s. (s, f s)) xs) ≡ flat_map (λ s. g (f s)) xs
own_joined f g [] = refl
own_joined f g (x ∷ xs) = ap (λ r. g (f x) ++ r) (own_joined f g xs)

-- ---- the kinds

module _ (p : Program) (M : Meaning) (s : Strategy) (t : Term) (n : ℕ) where
  pub strategy-id : s.node ≡ made.Id → meaning.strategy p M s t n ≡ Res t n ∷ []
  unfolding meaning.strategy
  strategy-id e = ap (λ i. meaning.strategy p M (record { node = i }) t n) e

  pub strategy-fail : s.node ≡ made.Fail → meaning.strategy p M s t n ≡ []
  unfolding meaning.strategy
  strategy-fail e = ap (λ i. meaning.strategy p M (record { node = i }) t n) e

  pub strategy-label : (rules : List ℕ) → s.node ≡ made.Label rules → meaning.strategy p M s t n ≡ flat_map (meaning.apply_number p M t n) rules
  unfolding meaning.strategy
  strategy-label rules e = ap (λ i. meaning.strategy p M (record { node = i }) t n) e

  pub strategy-call : (d : ℕ) (actuals : List Strategy) → s.node ≡ made.Call d actuals
      → meaning.strategy p M s t n ≡ meaning.call p M (slice_get p.named d) actuals t n
  unfolding meaning.strategy
  strategy-call d actuals e =
      ap (λ i. meaning.strategy p M (record { node = i }) t n) e ∙ ap (λ f. f t n) (para-call (meaning.at_level p M) d actuals)
      ∙ ap (λ ss. meaning.call p M (slice_get p.named d) ss t n) (own_first (meaning.strategy p M) actuals)

  pub strategy-param : (number : ℕ) → s.node ≡ made.Param number → meaning.strategy p M s t n ≡ []
  unfolding meaning.strategy
  strategy-param number e = ap (λ i. meaning.strategy p M (record { node = i }) t n) e

  pub strategy-seq : (arms : List Strategy) → s.node ≡ made.Seq arms → meaning.strategy p M s t n ≡ sequence (map (meaning.strategy p M) arms) t n
  unfolding meaning.strategy
  strategy-seq arms e =
      ap (λ i. meaning.strategy p M (record { node = i }) t n) e ∙ ap (λ f. f t n) (para-seq (meaning.at_level p M) arms)
      ∙ ap (λ fs. sequence fs t n) (own_second (meaning.strategy p M) arms)

  pub strategy-all : (arms : List Strategy) → s.node ≡ made.All arms → meaning.strategy p M s t n ≡ flat_map (meaning.strategy_on p M t n) arms
  unfolding meaning.strategy meaning.arm_list meaning.strategy_on
  strategy-all arms e =
      ap (λ i. meaning.strategy p M (record { node = i }) t n) e ∙ ap (λ f. f t n) (para-all (meaning.at_level p M) arms)
      ∙ own_joined (meaning.strategy p M) (λ f. f t n) arms

  pub strategy-first : (one : Bool) (arms : List Strategy) → s.node ≡ made.First one arms
      → meaning.strategy p M s t n ≡ chosen one (first_of (map (meaning.strategy_on p M t n) arms))
  unfolding meaning.strategy meaning.arm_list meaning.strategy_on
  strategy-first one arms e =
      ap (λ i. meaning.strategy p M (record { node = i }) t n) e ∙ ap (λ f. f t n) (para-first (meaning.at_level p M) one arms)
      ∙ ap (λ is. chosen one (first_of is)) (own_each (meaning.strategy p M) (λ f. f t n) arms)

  pub strategy-repeat : (inner : Strategy) → s.node ≡ made.Repeat inner → meaning.strategy p M s t n ≡ meaning.repeat p M inner t n
  unfolding meaning.strategy
  strategy-repeat inner e = ap (λ i. meaning.strategy p M (record { node = i }) t n) e ∙ ap (λ f. f t n) (para-repeat (meaning.at_level p M) inner)

  pub strategy-iterate : (inner : Strategy) → s.node ≡ made.Iterate inner → meaning.strategy p M s t n ≡ meaning.iterate p M inner t n
  unfolding meaning.strategy
  strategy-iterate inner e = ap (λ i. meaning.strategy p M (record { node = i }) t n) e ∙ ap (λ f. f t n) (para-iterate (meaning.at_level p M) inner)

  pub strategy-iterate_plus : (inner : Strategy) → s.node ≡ made.IteratePlus inner
      → meaning.strategy p M s t n ≡ meaning.iterate_plus p M inner t n
  unfolding meaning.strategy
  strategy-iterate_plus inner e =
      ap (λ i. meaning.strategy p M (record { node = i }) t n) e ∙ ap (λ f. f t n) (para-iterate_plus (meaning.at_level p M) inner)

  pub strategy-cong : (op : OpId) (arms : List Strategy) → s.node ≡ made.Cong op arms
      → meaning.strategy p M s t n
      ≡ case_term (meaning.not_headed p M) (meaning.congruent p M op (map (meaning.strategy p M) arms) n) t
  unfolding meaning.strategy
  strategy-cong op arms e =
      ap (λ i. meaning.strategy p M (record { node = i }) t n) e ∙ ap (λ f. f t n) (para-cong (meaning.at_level p M) op arms)
      ∙ ap (λ fs. case_term (meaning.not_headed p M) (meaning.congruent p M op fs n) t) (own_second (meaning.strategy p M) arms)

  pub strategy-cong-int : (op : OpId) (arms : List Strategy) (z : ℤ) → s.node ≡ made.Cong op arms → t.node ≡ term.Int z
      → meaning.strategy p M s t n ≡ []
  strategy-cong-int op arms z e f =
      strategy-cong op arms e
      ∙ ap (λ x. case_term (meaning.not_headed p M) (meaning.congruent p M op (map (meaning.strategy p M) arms) n) (record { node = x })) f

  pub strategy-cong-app : (op : OpId) (arms : List Strategy) (head : OpId) (args : List Term) → s.node ≡ made.Cong op arms
      → t.node ≡ term.App head args
      → meaning.strategy p M s t n ≡ meaning.congruent p M op (map (meaning.strategy p M) arms) n head args
  strategy-cong-app op arms head args e f =
      strategy-cong op arms e
      ∙ ap (λ x. case_term (meaning.not_headed p M) (meaning.congruent p M op (map (meaning.strategy p M) arms) n) (record { node = x })) f
      ∙ ap (meaning.congruent p M op (map (meaning.strategy p M) arms) n head) (items_hidden-the_row-Term-0 args)

  pub strategy-normalise : (sort : SortId) (inner : Strategy) → s.node ≡ made.Normalise sort inner
      → meaning.strategy p M s t n ≡ on_results (meaning.positions p M sort inner t n) (meaning.normal_term p M)
  unfolding meaning.strategy
  strategy-normalise sort inner e = ap (λ i. meaning.strategy p M (record { node = i }) t n) e ∙ ap (λ f. f t n) (para-normalise (meaning.at_level p M) sort inner)

  pub strategy_on-is : meaning.strategy_on p M t n s ≡ meaning.strategy p M s t n
  unfolding meaning.strategy_on
  strategy_on-is = refl

-- a strategy is what its node is
pub whole : (s : Strategy) {n : made.the_data} → s.node ≡ n → s ≡ record { node = n }
whole s e = ap (λ i. record { node = i }) e

pub ruleset strategies = (
  strategy-id,
  strategy-fail,
  strategy-label,
  strategy-call,
  strategy-param,
  strategy-seq,
  strategy-all,
  strategy-first,
  strategy-repeat,
  strategy-iterate,
  strategy-iterate_plus,
  strategy-normalise,
  strategy-cong-int,
  strategy-cong-app,
  strategy_on-is,
  whole,
)
