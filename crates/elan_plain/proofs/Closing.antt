-- How a strategy is closed, level by level, and what that says of its list and its weight.
use Rattle.std.proofs.Common.{◌≡◌, refl, sym, ◌∙◌, ap, ℕ, ◌+◌, suc, zero, Bool, Option, Some, None, List, [], ◌∷◌, map}
use Rattle.std.proofs.lemmas.List.{map-id}
use Rattle.std.proofs.lemmas.Option.{slice_get-map}
use denote.Ref.{Bor}
use Rattle.std.specs.Prelude.{slice_get}
use Rattle.std.specs.Option.{option_map}
use Rattle.std.specs.List.{flat_map}
use Rattle.elan_terms.specs.declared.tree.OpId.{OpId}
use Rattle.elan_terms.specs.declared.tree.SortId.{SortId}
use Rattle.elan_terms.specs.declared.tree.Term.{Term}
use Rattle.elan_terms.specs.Trees.{case_term}
use Rattle.elan_program.specs.declared.strategy.Strategy.{Strategy}
use Rattle.elan_program.specs.declared.strategy.StrategyNode.{StrategyNode}
use Rattle.elan_program.specs.declared.strategy.StrategyNode.TheVariants as node
use Rattle.elan_program.specs.declared.program.Program.{Program}
use Rattle.elan_program.specs.Strategies.{made, seconds, actual_or, replaced, with_actuals, strategy_weight, strategy_weights}
use Rattle.elan_program.proofs.StrategyLemmas.{para-call, para-cong, para-seq, para-all, para-first, para-repeat, para-iterate, para-iterate_plus, para-normalise}
use Rattle.elan_program.proofs.StrategyWeights as weight
use Rattle.elan_meaning.specs.declared.item.Item.TheVariants.{Res}
use Rattle.elan_meaning.specs.Items.{on_results, first_of, chosen, sequence}
use Rattle.elan_meaning.specs.Meaning as meaning
use Rattle.elan_meaning.specs.Meaning.{Meaning}
use Rattle.elan_meaning.proofs.StrategyRules as rule
use Rattle.elan_plain.specs.declared.closures.Actuals.{Actuals}
use Rattle.elan_plain.specs.declared.closures.Actuals.TheVariants as actuals
use Rattle.elan_plain.specs.Closures.{closed}

-- what was given to each, beside it
seconds-own : {A : Type 0} (f : Strategy → A) (ss : List Strategy) → seconds (map (λ s. (s, f s)) ss) ≡ map f ss
seconds-own f [] = refl
seconds-own f (s ∷ ss) = ap (λ r. f s ∷ r) (seconds-own f ss)

-- a function that leaves each level as it is and goes on with the strategies inside
record Closes (f : Strategy → Strategy) : Type 0 where
  id : f (made (node.Id)) ≡ made (node.Id)
  fail : f (made (node.Fail)) ≡ made (node.Fail)
  label : (rules : List ℕ) → f (made (node.Label rules)) ≡ made (node.Label rules)
  call : (number : ℕ) (ss : List Strategy) → f (made (node.Call number ss)) ≡ made (node.Call number (map f ss))
  seq : (ss : List Strategy) → f (made (node.Seq ss)) ≡ made (node.Seq (map f ss))
  all : (ss : List Strategy) → f (made (node.All ss)) ≡ made (node.All (map f ss))
  first : (one : Bool) (ss : List Strategy) → f (made (node.First one ss)) ≡ made (node.First one (map f ss))
  repeat : (s : Strategy) → f (made (node.Repeat s)) ≡ made (node.Repeat (f s))
  iterate : (s : Strategy) → f (made (node.Iterate s)) ≡ made (node.Iterate (f s))
  iterate_plus : (s : Strategy) → f (made (node.IteratePlus s)) ≡ made (node.IteratePlus (f s))
  normalise : (sort : SortId) (s : Strategy) → f (made (node.Normalise sort s)) ≡ made (node.Normalise sort (f s))
  cong : (op : OpId) (ss : List Strategy) → f (made (node.Cong op ss)) ≡ made (node.Cong op (map f ss))

-- the strategy itself
same : Closes (λ s. s)
same = record {
  id = refl;
  fail = refl;
  label = λ rules. refl;
  call = λ number ss. ap (λ r. made (node.Call number r)) (sym (map-id ss));
  seq = λ ss. ap (λ r. made (node.Seq r)) (sym (map-id ss));
  all = λ ss. ap (λ r. made (node.All r)) (sym (map-id ss));
  first = λ one ss. ap (λ r. made (node.First one r)) (sym (map-id ss));
  repeat = λ s. refl;
  iterate = λ s. refl;
  iterate_plus = λ s. refl;
  normalise = λ sort s. refl;
  cong = λ op ss. ap (λ r. made (node.Cong op r)) (sym (map-id ss));
}

-- its parameters replaced
replacing : (given : List Strategy) → Closes (with_actuals given)
unfolding with_actuals
replacing given = record {
  id = refl;
  fail = refl;
  label = λ rules. refl;
  call = λ number ss. para-call (replaced given) number ss ∙ ap (λ r. made (node.Call number r)) (seconds-own (with_actuals given) ss);
  seq = λ ss. para-seq (replaced given) ss ∙ ap (λ r. made (node.Seq r)) (seconds-own (with_actuals given) ss);
  all = λ ss. para-all (replaced given) ss ∙ ap (λ r. made (node.All r)) (seconds-own (with_actuals given) ss);
  first = λ one ss. para-first (replaced given) one ss ∙ ap (λ r. made (node.First one r)) (seconds-own (with_actuals given) ss);
  repeat = λ s. para-repeat (replaced given) s;
  iterate = λ s. para-iterate (replaced given) s;
  iterate_plus = λ s. para-iterate_plus (replaced given) s;
  normalise = λ sort s. para-normalise (replaced given) sort s;
  cong = λ op ss. para-cong (replaced given) op ss ∙ ap (λ r. made (node.Cong op r)) (seconds-own (with_actuals given) ss);
}

-- closing is the one or the other
closes : (e : Actuals) → Closes (closed e)
closes actuals.Absent = same
closes (actuals.Given' given p e) = replacing (map (closed e) given.now)

module _ (e : Actuals) (s : Strategy) where
  at : {n : node.the_data} → s.node ≡ n → (closed e s).node ≡ (closed e (made n)).node
  at q = ap (λ i. (closed e (made i)).node) q

  pub closed-id : s.node ≡ node.Id → (closed e s).node ≡ node.Id
  closed-id q = at q ∙ ap (λ i. i.node) ((closes e).id)

  pub closed-fail : s.node ≡ node.Fail → (closed e s).node ≡ node.Fail
  closed-fail q = at q ∙ ap (λ i. i.node) ((closes e).fail)

  pub closed-label : (rules : List ℕ) → s.node ≡ node.Label rules → (closed e s).node ≡ node.Label rules
  closed-label rules q = at q ∙ ap (λ i. i.node) ((closes e).label rules)

  pub closed-call : (number : ℕ) (ss : List Strategy) → s.node ≡ node.Call number ss → (closed e s).node ≡ node.Call number (map (closed e) ss)
  closed-call number ss q = at q ∙ ap (λ i. i.node) ((closes e).call number ss)

  pub closed-seq : (ss : List Strategy) → s.node ≡ node.Seq ss → (closed e s).node ≡ node.Seq (map (closed e) ss)
  closed-seq ss q = at q ∙ ap (λ i. i.node) ((closes e).seq ss)

  pub closed-all : (ss : List Strategy) → s.node ≡ node.All ss → (closed e s).node ≡ node.All (map (closed e) ss)
  closed-all ss q = at q ∙ ap (λ i. i.node) ((closes e).all ss)

  pub closed-first : (one : Bool) (ss : List Strategy) → s.node ≡ node.First one ss → (closed e s).node ≡ node.First one (map (closed e) ss)
  closed-first one ss q = at q ∙ ap (λ i. i.node) ((closes e).first one ss)

  pub closed-repeat : (inner : Strategy) → s.node ≡ node.Repeat inner → (closed e s).node ≡ node.Repeat (closed e inner)
  closed-repeat inner q = at q ∙ ap (λ i. i.node) ((closes e).repeat inner)

  pub closed-iterate : (inner : Strategy) → s.node ≡ node.Iterate inner → (closed e s).node ≡ node.Iterate (closed e inner)
  closed-iterate inner q = at q ∙ ap (λ i. i.node) ((closes e).iterate inner)

  pub closed-iterate_plus : (inner : Strategy) → s.node ≡ node.IteratePlus inner → (closed e s).node ≡ node.IteratePlus (closed e inner)
  closed-iterate_plus inner q = at q ∙ ap (λ i. i.node) ((closes e).iterate_plus inner)

  pub closed-normalise : (sort : SortId) (inner : Strategy) → s.node ≡ node.Normalise sort inner → (closed e s).node ≡ node.Normalise sort (closed e inner)
  closed-normalise sort inner q = at q ∙ ap (λ i. i.node) ((closes e).normalise sort inner)

  pub closed-cong : (op : OpId) (ss : List Strategy) → s.node ≡ node.Cong op ss → (closed e s).node ≡ node.Cong op (map (closed e) ss)
  closed-cong op ss q = at q ∙ ap (λ i. i.node) ((closes e).cong op ss)

  -- ---- weights

  pub weighs-call : (number : ℕ) (ss : List Strategy) → s.node ≡ node.Call number ss → strategy_weight (closed e s) ≡ 1 + strategy_weights (map (closed e) ss)
  weighs-call number ss q = weight.weight-call (closed e s) number (map (closed e) ss) (closed-call number ss q)

  pub weighs-seq : (ss : List Strategy) → s.node ≡ node.Seq ss → strategy_weight (closed e s) ≡ 1 + strategy_weights (map (closed e) ss)
  weighs-seq ss q = weight.weight-seq (closed e s) (map (closed e) ss) (closed-seq ss q)

  pub weighs-all : (ss : List Strategy) → s.node ≡ node.All ss → strategy_weight (closed e s) ≡ 1 + strategy_weights (map (closed e) ss)
  weighs-all ss q = weight.weight-all (closed e s) (map (closed e) ss) (closed-all ss q)

  pub weighs-first : (one : Bool) (ss : List Strategy) → s.node ≡ node.First one ss → strategy_weight (closed e s) ≡ 1 + strategy_weights (map (closed e) ss)
  weighs-first one ss q = weight.weight-first (closed e s) one (map (closed e) ss) (closed-first one ss q)

  pub weighs-repeat : (inner : Strategy) → s.node ≡ node.Repeat inner → strategy_weight (closed e s) ≡ 1 + strategy_weight (closed e inner)
  weighs-repeat inner q = weight.weight-repeat (closed e s) (closed e inner) (closed-repeat inner q)

  pub weighs-iterate : (inner : Strategy) → s.node ≡ node.Iterate inner → strategy_weight (closed e s) ≡ 1 + strategy_weight (closed e inner)
  weighs-iterate inner q = weight.weight-iterate (closed e s) (closed e inner) (closed-iterate inner q)

  pub weighs-iterate_plus : (inner : Strategy) → s.node ≡ node.IteratePlus inner → strategy_weight (closed e s) ≡ 1 + strategy_weight (closed e inner)
  weighs-iterate_plus inner q = weight.weight-iterate_plus (closed e s) (closed e inner) (closed-iterate_plus inner q)

  pub weighs-normalise : (sort : SortId) (inner : Strategy) → s.node ≡ node.Normalise sort inner → strategy_weight (closed e s) ≡ 1 + strategy_weight (closed e inner)
  weighs-normalise sort inner q = weight.weight-normalise (closed e s) (closed e inner) sort (closed-normalise sort inner q)

  pub weighs-cong : (op : OpId) (ss : List Strategy) → s.node ≡ node.Cong op ss → strategy_weight (closed e s) ≡ 1 + strategy_weights (map (closed e) ss)
  weighs-cong op ss q = weight.weight-cong (closed e s) op (map (closed e) ss) (closed-cong op ss q)

-- ---- lists

module _ (p : Program) (M : Meaning) (e : Actuals) (s : Strategy) (t : Term) (n : ℕ) where
  pub list-id : s.node ≡ node.Id
      → meaning.strategy p M (closed e s) t n ≡ Res t n ∷ []
  list-id q = rule.strategy-id p M (closed e s) t n (closed-id e s q)

  pub list-fail : s.node ≡ node.Fail
      → meaning.strategy p M (closed e s) t n ≡ []
  list-fail q = rule.strategy-fail p M (closed e s) t n (closed-fail e s q)

  pub list-label : (rules : List ℕ) → s.node ≡ node.Label rules
      → meaning.strategy p M (closed e s) t n ≡ flat_map (meaning.apply_number p M t n) rules
  list-label rules q = rule.strategy-label p M (closed e s) t n rules (closed-label e s rules q)

  pub list-call : (number : ℕ) (ss : List Strategy) → s.node ≡ node.Call number ss
      → meaning.strategy p M (closed e s) t n ≡ meaning.call p M (slice_get p.named number) (map (closed e) ss) t n
  list-call number ss q = rule.strategy-call p M (closed e s) t n number (map (closed e) ss) (closed-call e s number ss q)

  pub list-seq : (ss : List Strategy) → s.node ≡ node.Seq ss
      → meaning.strategy p M (closed e s) t n ≡ sequence (map (meaning.strategy p M) (map (closed e) ss)) t n
  list-seq ss q = rule.strategy-seq p M (closed e s) t n (map (closed e) ss) (closed-seq e s ss q)

  pub list-all : (ss : List Strategy) → s.node ≡ node.All ss
      → meaning.strategy p M (closed e s) t n ≡ flat_map (meaning.strategy_on p M t n) (map (closed e) ss)
  list-all ss q = rule.strategy-all p M (closed e s) t n (map (closed e) ss) (closed-all e s ss q)

  pub list-first : (one : Bool) (ss : List Strategy) → s.node ≡ node.First one ss
      → meaning.strategy p M (closed e s) t n ≡ chosen one (first_of (map (meaning.strategy_on p M t n) (map (closed e) ss)))
  list-first one ss q = rule.strategy-first p M (closed e s) t n one (map (closed e) ss) (closed-first e s one ss q)

  pub list-repeat : (inner : Strategy) → s.node ≡ node.Repeat inner
      → meaning.strategy p M (closed e s) t n ≡ meaning.repeat p M (closed e inner) t n
  list-repeat inner q = rule.strategy-repeat p M (closed e s) t n (closed e inner) (closed-repeat e s inner q)

  pub list-iterate : (inner : Strategy) → s.node ≡ node.Iterate inner
      → meaning.strategy p M (closed e s) t n ≡ meaning.iterate p M (closed e inner) t n
  list-iterate inner q = rule.strategy-iterate p M (closed e s) t n (closed e inner) (closed-iterate e s inner q)

  pub list-iterate_plus : (inner : Strategy) → s.node ≡ node.IteratePlus inner
      → meaning.strategy p M (closed e s) t n ≡ meaning.iterate_plus p M (closed e inner) t n
  list-iterate_plus inner q = rule.strategy-iterate_plus p M (closed e s) t n (closed e inner) (closed-iterate_plus e s inner q)

  pub list-normalise : (sort : SortId) (inner : Strategy) → s.node ≡ node.Normalise sort inner
      → meaning.strategy p M (closed e s) t n ≡ on_results (meaning.positions p M sort (closed e inner) t n) (meaning.normal_term p M)
  list-normalise sort inner q = rule.strategy-normalise p M (closed e s) t n sort (closed e inner) (closed-normalise e s sort inner q)

  pub list-cong : (op : OpId) (ss : List Strategy) → s.node ≡ node.Cong op ss
      → meaning.strategy p M (closed e s) t n ≡ case_term (meaning.not_headed p M) (meaning.congruent p M op (map (meaning.strategy p M) (map (closed e) ss)) n) t
  list-cong op ss q = rule.strategy-cong p M (closed e s) t n op (map (closed e) ss) (closed-cong e s op ss q)

  -- a parameter without an actual has no list
  pub list-param : (number : ℕ) → closed e s ≡ made (node.Param number) → meaning.strategy p M (closed e s) t n ≡ []
  list-param number q = rule.strategy-param p M (closed e s) t n number (ap (λ i. i.node) q)

pub ruleset closings = (list-id, list-fail, list-label, list-call, list-seq, list-all, list-first, list-repeat, list-iterate, list-iterate_plus, list-normalise, list-cong, list-param, weighs-call, weighs-seq, weighs-all, weighs-first, weighs-repeat, weighs-iterate, weighs-iterate_plus, weighs-normalise, weighs-cong)

-- ---- parameters

pub closed-given : (given : Bor (List Strategy)) (read_in : Bor Actuals) (s : Strategy)
    → closed (actuals.Given given read_in) s ≡ with_actuals (map (closed read_in.now) given.now) s
closed-given given read_in s = refl

pub ruleset givens = (closed-given)

same_number : (n : node.the_data) (i j : ℕ) → n ≡ node.Param i → n ≡ node.Param j → i ≡ j
same_number n i j q r = cc

module _ (given : List Strategy) (s : Strategy) (i : ℕ) (q : s.node ≡ node.Param i) where
  replaced-param : with_actuals given s ≡ actual_or i (slice_get given i)
  unfolding with_actuals
  replaced-param = ap (λ k. with_actuals given (made k)) q

module _ (given : List Strategy) (read_in : Actuals) (s : Strategy) (i : ℕ) (q : s.node ≡ node.Param i) where
  read_at : (o : Option Strategy) → slice_get given i ≡ o → with_actuals (map (closed read_in) given) s ≡ actual_or i (option_map (closed read_in) o)
  read_at o found =
      replaced-param (map (closed read_in) given) s i q ∙ ap (actual_or i) (slice_get-map (closed read_in) given i)
      ∙ ap (λ x. actual_or i (option_map (closed read_in) x)) found

module _ (e : Actuals) (given : Bor (List Strategy)) (read_in : Bor Actuals) (is : e ≡ actuals.Given given read_in) (s : Strategy) (i : ℕ) (q : s.node ≡ node.Param i) where
  at_entry : closed e s ≡ with_actuals (map (closed read_in.now) given.now) s
  at_entry = ap (λ x. closed x s) is ∙ closed-given given read_in s

  -- a parameter is its actual, read where that is read
  pub resolves : (a : Strategy) → slice_get given.now i ≡ Some a → closed read_in.now a ≡ closed e s
  resolves a found = sym (at_entry ∙ read_at given.now read_in.now s i q (Some a) found)

  -- a parameter without an actual stays
  pub stays-given : slice_get given.now i ≡ None → (j : ℕ) → s.node ≡ node.Param j → closed e s ≡ made (node.Param j)
  stays-given found j r =
      at_entry ∙ read_at given.now read_in.now s i q None found ∙ ap (λ k. made (node.Param k)) (same_number s.node i j q r)

-- outside of bodies a parameter stays
pub stays-absent : (e : Actuals) → e ≡ actuals.Absent → (s : Strategy) (j : ℕ) → s.node ≡ node.Param j → closed e s ≡ made (node.Param j)
stays-absent e is s j r = ap (λ x. closed x s) is ∙ ap (λ k. made k) r

pub closed-absent : (e : Actuals) (s : Strategy) → e ≡ actuals.Absent → closed e s ≡ s
closed-absent e s is = ap (λ x. closed x s) is

pub closed-outside : (s : Strategy) → closed actuals.Absent s ≡ s
closed-outside s = closed-absent actuals.Absent s refl

pub ruleset outsides = (closed-absent, closed-outside)

pub ruleset resolving = (resolves, stays-given, stays-absent)
