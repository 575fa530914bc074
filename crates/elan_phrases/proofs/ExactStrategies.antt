-- Strategies are read exactly, as trees.
use Rattle.std.proofs.Common.{◌≡◌, ℕ, suc, ◌-◌, Bool, true, false, cond, ◌||◌, List, [], ◌∷◌, length, inl, refl, sym, arith}
use Rattle.elan_forms.specs.Whole.{done}
use Rattle.elan_forms.specs.Form.{◌>>=◌, after, counted, silent, pure, either, nested, begins_with}
use Rattle.elan_forms.proofs.Exact.{Begins, begins_bind, Same}
use Rattle.elan_forms.proofs.Choices.{begins_either}
use Rattle.elan_forms.proofs.Lengths.{Shrinks, Keeps, shrinks_keeps, silent_keeps, bind_shrinks, bind_keeps, either_shrinks, either_keeps}
use Rattle.elan_forms.proofs.Loops.{turns_keep}
use Rattle.elan_forms.proofs.Nested.{Alike, alike_refl, alike_less, bind_alike, either_alike, loop_alike, placed_alike, counted_alike, counted_shrinks, begins_counted, unroll}
use Rattle.elan_forms.proofs.Spans.{placed_shrinks, begins_placed}
use Rattle.elan_forms.proofs.Takes.{Takes, Stands, May, none, both, so, takes_more, takes_counted, may_pure, then_next, then_last, then_may, then_value, stands_value, may_value, stands_then_stands, may_then_stands, takes_either, may_either, takes_placed, may_loop, may_optional, none_apart, none_within, within_itself, takes_nested, loop_turn}
use Rattle.elan_phrases.specs.declared.left.Left.{Left}
use Rattle.elan_phrases.specs.declared.plan.Plan.{Plan}
use Rattle.elan_phrases.specs.declared.plan.PlanNode.{PlanNode}
use Rattle.elan_phrases.specs.declared.plan.PlanNode.TheVariants as plan
use Rattle.elan_phrases.specs.declared.symbol.Symbol.{Symbol}
use Rattle.elan_phrases.specs.declared.symbol.Symbol.TheVariants.{Comma, Semicolon, LeftRound, RightRound, Star, Plus, Id, Fail, Dk, One, Dc, Repeat, Iterate, Normalise, Name}
use Rattle.elan_phrases.specs.Symbols.{Seen, same_symbol, one, a, names, labels, plain_steps, choices}
use Rattle.elan_phrases.specs.Beginnings.{begins_step}
use Rattle.elan_phrases.specs.Tokens.{Rule}
use Rattle.elan_phrases.specs.Strategies.{Counted, with_left, made, behind, one_arm, more_arms, arms, inside, plain, some_of, some_arms, called, named, all_among, all_of, first_among, first_arms, alternatives, choice, wrapped, repeated, rounds, iterated, normal, step, one_step, more_steps, turned, strategy_body, strategy, most_strategy_tokens, planned, strategy_plan, some_strategy}
use Rattle.elan_phrases.proofs.SymbolSets.{separate, within, same_is}
use Rattle.elan_phrases.proofs.ExactTokens.{kind, sample}

counted_keeps : (p : Seen → Bool) (l : ℕ) → Keeps (counted p l)
counted_keeps p l = shrinks_keeps (counted p l) (counted_shrinks p l)

-- a value that is made of what was taken takes nothing more
value_shrinks : {A B : Type 0} (f : Rule A) (value : A → ℕ → B) → Shrinks f → Shrinks (f >>= (λ x. silent (value x)))
value_shrinks f value h = bind_shrinks f (λ x. silent (value x)) h (λ x. silent_keeps (value x))

value_keeps : {A B : Type 0} (f : Rule A) (value : A → ℕ → B) → Keeps f → Keeps (f >>= (λ x. silent (value x)))
value_keeps f value h = bind_keeps f (λ x. silent (value x)) h (λ x. silent_keeps (value x))

-- behind a token, what keeps shrinks
behind_shrinks : {A : Type 0} (p : Seen → Bool) (s : ℕ) (g : ℕ → Rule A) → ((l : ℕ) → Keeps (g l)) →
    Shrinks (counted p s >>= g)
behind_shrinks p s g h = bind_shrinks (counted p s) g (counted_shrinks p s) h

-- ---- the alternatives of a step, from the last one on

abbrev pub from_iterated : Counted Plan → Counted Plan
from_iterated F s = either (iterated F s) (normal F s)

abbrev pub from_repeated : Counted Plan → Counted Plan
from_repeated F s = either (repeated F s) (from_iterated F s)

abbrev pub from_choice : Counted Plan → Counted Plan
from_choice F s = either (choice F s) (from_repeated F s)

abbrev pub from_all : Counted Plan → Counted Plan
from_all F s = either (all_of F s) (from_choice F s)

abbrev pub from_inside : Counted Plan → Counted Plan
from_inside F s = either (inside F s) (from_all F s)

abbrev pub from_named : Counted Plan → Counted Plan
from_named F s = either (named F s) (from_inside F s)

-- ---- reading a strategy leaves less, where reading the strategies in it does

plain_shrinks : (s : ℕ) → Shrinks (plain s)
unfolding plain
plain_shrinks s = either_shrinks (counted (a (one Id)) s >>= (λ l. pure (made plan.Id l)))
    (counted (a (one Fail)) s >>= (λ l. pure (made plan.Fail l)))
    (value_shrinks (counted (a (one Id)) s) (λ l _. made plan.Id l) (counted_shrinks (a (one Id)) s))
    (value_shrinks (counted (a (one Fail)) s) (λ l _. made plan.Fail l) (counted_shrinks (a (one Fail)) s))

module _ (F : Counted Plan) (h : (s : ℕ) → Shrinks (F s)) where
  keeps : (s : ℕ) → Keeps (F s)
  keeps s = shrinks_keeps (F s) (h s)

  pub arm_shrinks : (x : Left (List Plan)) → Shrinks (one_arm F x)
  arm_shrinks x = behind_shrinks (a (one Comma)) x.left _
      (λ l. value_keeps (F l) (λ arm _. behind x.value arm) (keeps l))

  more_arms_keeps : (x : Left (List Plan)) → Keeps (more_arms F x)
  unfolding more_arms
  more_arms_keeps x n ts v m r e = turns_keep (λ _. a (one Comma)) (one_arm F) arm_shrinks (length ts) x n ts v m r e

  arms_shrinks : (s : ℕ) → Shrinks (arms F s)
  unfolding arms
  arms_shrinks s = behind_shrinks (a (one LeftRound)) s _ (λ l.
      bind_keeps (F l) _ (keeps l) (λ first.
      bind_keeps (more_arms F (behind [] first)) _ (more_arms_keeps (behind [] first)) (λ all.
      value_keeps (counted (a (one RightRound)) all.left) (λ l2 _. with_left l2 all.value)
      (counted_keeps (a (one RightRound)) all.left))))

  arms_keeps : (s : ℕ) → Keeps (arms F s)
  arms_keeps s = shrinks_keeps (arms F s) (arms_shrinks s)

  some_arms_keeps : (s : ℕ) → Keeps (some_arms F s)
  some_arms_keeps s = either_keeps (arms F s >>= (λ all. pure (some_of all))) (pure (with_left s _))
      (value_keeps (arms F s) (λ all _. some_of all) (arms_keeps s)) (silent_keeps (λ _. with_left s _))

  label_shrinks : (s : ℕ) → Shrinks (counted (a labels) s >>= some_arms F)
  label_shrinks s = behind_shrinks (a labels) s (some_arms F) some_arms_keeps

  named_shrinks : (s : ℕ) → Shrinks (named F s)
  unfolding named
  named_shrinks s = placed_shrinks (λ at v past. called at v) (counted (a labels) s >>= some_arms F) (label_shrinks s)

  inside_shrinks : (s : ℕ) → Shrinks (inside F s)
  unfolding inside
  inside_shrinks s = behind_shrinks (a (one LeftRound)) s _ (λ l.
      bind_keeps (F l) _ (keeps l) (λ found.
      value_keeps (counted (a (one RightRound)) found.left) (λ l2 _. with_left l2 found.value)
      (counted_keeps (a (one RightRound)) found.left)))

  inside_keeps : (s : ℕ) → Keeps (inside F s)
  inside_keeps s = shrinks_keeps (inside F s) (inside_shrinks s)

  wrapped_keeps : (kind_of : Plan → PlanNode) (s : ℕ) → Keeps (wrapped kind_of F s)
  wrapped_keeps kind_of s = value_keeps (inside F s) (λ found _. made (kind_of found.value) found.left) (inside_keeps s)

  all_of_shrinks : (s : ℕ) → Shrinks (all_of F s)
  unfolding all_of
  all_of_shrinks s = behind_shrinks (a (one Dk)) s _
      (λ l. value_keeps (arms F l) (λ all _. all_among all) (arms_keeps l))

  first_arms_shrinks : (alone : Bool) (s : ℕ) → Shrinks (first_arms alone F s)
  first_arms_shrinks alone s = value_shrinks (arms F s) (λ all _. first_among alone all) (arms_shrinks s)

  alternatives_shrinks : (s : ℕ) → Shrinks (alternatives F s)
  unfolding alternatives
  alternatives_shrinks s = either_shrinks (counted (a (one One)) s >>= first_arms true F) (first_arms false F s)
      (behind_shrinks (a (one One)) s (first_arms true F)
      (λ l. shrinks_keeps (first_arms true F l) (first_arms_shrinks true l))) (first_arms_shrinks false s)

  choice_shrinks : (s : ℕ) → Shrinks (choice F s)
  unfolding choice
  choice_shrinks s = behind_shrinks (a choices) s (alternatives F)
      (λ l. shrinks_keeps (alternatives F l) (alternatives_shrinks l))

  repeated_shrinks : (s : ℕ) → Shrinks (repeated F s)
  unfolding repeated
  repeated_shrinks s = behind_shrinks (a (one Repeat)) s _ (λ l.
      bind_keeps (counted (a (one Star)) l) (wrapped plan.Repeat F) (counted_keeps (a (one Star)) l)
      (wrapped_keeps plan.Repeat))

  rounds_shrinks : (s : ℕ) → Shrinks (rounds F s)
  unfolding rounds
  rounds_shrinks s = either_shrinks (counted (a (one Star)) s >>= wrapped plan.Iterate F)
      (counted (a (one Plus)) s >>= wrapped plan.IteratePlus F)
      (behind_shrinks (a (one Star)) s (wrapped plan.Iterate F) (wrapped_keeps plan.Iterate))
      (behind_shrinks (a (one Plus)) s (wrapped plan.IteratePlus F) (wrapped_keeps plan.IteratePlus))

  iterated_shrinks : (s : ℕ) → Shrinks (iterated F s)
  unfolding iterated
  iterated_shrinks s = behind_shrinks (a (one Iterate)) s (rounds F)
      (λ l. shrinks_keeps (rounds F l) (rounds_shrinks l))

  normal_shrinks : (s : ℕ) → Shrinks (normal F s)
  unfolding normal
  normal_shrinks s = behind_shrinks (a (one Normalise)) s (wrapped plan.Normalise F) (wrapped_keeps plan.Normalise)

  pub step_shrinks : (s : ℕ) → Shrinks (step F s)
  unfolding step
  step_shrinks s =
      either_shrinks (plain s) (from_named F s) (plain_shrinks s)
      (either_shrinks (named F s) (from_inside F s) (named_shrinks s)
      (either_shrinks (inside F s) (from_all F s) (inside_shrinks s)
      (either_shrinks (all_of F s) (from_choice F s) (all_of_shrinks s)
      (either_shrinks (choice F s) (from_repeated F s) (choice_shrinks s)
      (either_shrinks (repeated F s) (from_iterated F s) (repeated_shrinks s)
      (either_shrinks (iterated F s) (normal F s) (iterated_shrinks s) (normal_shrinks s)))))))

  pub turn_shrinks : (x : Left (List Plan)) → Shrinks (one_step F x)
  turn_shrinks x = behind_shrinks (a (one Semicolon)) x.left _
      (λ l. value_keeps (step F l) (λ next _. behind x.value next) (shrinks_keeps (step F l) (step_shrinks l)))

  more_steps_keeps : (x : Left (List Plan)) → Keeps (more_steps F x)
  unfolding more_steps
  more_steps_keeps x n ts v m r e = turns_keep (λ _. a (one Semicolon)) (one_step F) turn_shrinks (length ts) x n ts v m
      r e

pub strategy_lessens : (F : Counted Plan) → ((s : ℕ) → Shrinks (F s)) → (s : ℕ) → Shrinks (strategy_body F s)
unfolding strategy_body
strategy_lessens F h s = bind_shrinks (step F s) _ (step_shrinks F h s) (λ first.
    value_keeps (more_steps F (behind [] first)) (λ all _. turned all) (more_steps_keeps F h (behind [] first)))

-- ---- two forms that agree on short texts make strategies that agree on longer ones

-- what agrees goes on alike
then_alike : {A B : Type 0} (c : ℕ) (f g : Rule A) (k : A → Rule B) → Keeps f → Alike c f g → Alike c (f >>= k) (g >>= k)
then_alike c f g k keeps_f e = bind_alike c f g k k keeps_f e (λ x. alike_refl c (k x))

module _ (b : ℕ) (F G : Counted Plan) (h : (s : ℕ) → Shrinks (F s)) (e : (s : ℕ) → Alike b (F s) (G s)) where
  arm_alike : (x : Left (List Plan)) → Alike b (one_arm F x) (one_arm G x)
  arm_alike x = alike_less b (suc b) _ _ (omega arith) (counted_alike b (a (one Comma)) x.left _ _
      (λ l. then_alike b (F l) (G l) (λ arm. pure (behind x.value arm)) (keeps F h l) (e l)))

  inside_alike : (s : ℕ) → Alike (suc b) (inside F s) (inside G s)
  unfolding inside
  inside_alike s = counted_alike b (a (one LeftRound)) s _ _ (λ l.
      then_alike b (F l) (G l)
      (λ found. counted (a (one RightRound)) found.left >>= (λ l2. pure (with_left l2 found.value)))
      (keeps F h l) (e l))

  arms_alike : (s : ℕ) → Alike (suc b) (arms F s) (arms G s)
  unfolding arms more_arms
  arms_alike s = counted_alike b (a (one LeftRound)) s _ _ (λ l.
      bind_alike b (F l) (G l) _ _ (keeps F h l) (e l) (λ first.
      then_alike b (more_arms F (behind [] first)) (more_arms G (behind [] first))
      (λ all. counted (a (one RightRound)) all.left >>= (λ l2. pure (with_left l2 all.value)))
      (more_arms_keeps F h (behind [] first))
      (loop_alike b (λ _. a (one Comma)) (one_arm F) (one_arm G) arm_alike (arm_shrinks F h) (behind [] first))))

  -- behind a token, what agrees on longer texts does so
  behind_alike : {A : Type 0} (p : Seen → Bool) (f g : ℕ → Rule A) → ((s : ℕ) → Alike (suc b) (f s) (g s)) → (s : ℕ) →
      Alike (suc b) (counted p s >>= f) (counted p s >>= g)
  behind_alike p f g k s = alike_less (suc b) (suc (suc b)) _ _ (omega arith) (counted_alike (suc b) p s f g k)

  first_arms_alike : (alone : Bool) (s : ℕ) → Alike (suc b) (first_arms alone F s) (first_arms alone G s)
  first_arms_alike alone s = then_alike (suc b) (arms F s) (arms G s) (λ all. pure (first_among alone all)) (arms_keeps F h s) (arms_alike s)

  alternatives_alike : (s : ℕ) → Alike (suc b) (alternatives F s) (alternatives G s)
  unfolding alternatives
  alternatives_alike s = either_alike (suc b) (counted (a (one One)) s >>= first_arms true F)
      (counted (a (one One)) s >>= first_arms true G) (first_arms false F s) (first_arms false G s) (λ t. refl)
      (behind_alike (a (one One)) (first_arms true F) (first_arms true G) (first_arms_alike true) s)
      (first_arms_alike false s)

  some_arms_alike : (s : ℕ) → Alike (suc b) (some_arms F s) (some_arms G s)
  unfolding arms
  some_arms_alike s = either_alike (suc b) (arms F s >>= (λ all. pure (some_of all)))
      (arms G s >>= (λ all. pure (some_of all))) (pure (with_left s _)) (pure (with_left s _)) (λ t. refl)
      (then_alike (suc b) (arms F s) (arms G s) (λ all. pure (some_of all)) (arms_keeps F h s) (arms_alike s)) (alike_refl (suc b) _)

  named_alike : (s : ℕ) → Alike (suc b) (named F s) (named G s)
  unfolding named
  named_alike s = placed_alike (suc b) (λ at v past. called at v) (counted (a labels) s >>= some_arms F)
      (counted (a labels) s >>= some_arms G)
      (shrinks_keeps (counted (a labels) s >>= some_arms F) (label_shrinks F h s))
      (behind_alike (a labels) (some_arms F) (some_arms G) some_arms_alike s)

  wrapped_alike : (kind_of : Plan → PlanNode) (s : ℕ) → Alike (suc b) (wrapped kind_of F s) (wrapped kind_of G s)
  wrapped_alike kind_of s = then_alike (suc b) (inside F s) (inside G s)
      (λ found. pure (made (kind_of found.value) found.left)) (inside_keeps F h s) (inside_alike s)

  all_of_alike : (s : ℕ) → Alike (suc b) (all_of F s) (all_of G s)
  unfolding all_of
  all_of_alike s = behind_alike (a (one Dk)) _ _
      (λ l. then_alike (suc b) (arms F l) (arms G l) (λ all. pure (all_among all)) (arms_keeps F h l) (arms_alike l)) s

  repeated_alike : (s : ℕ) → Alike (suc b) (repeated F s) (repeated G s)
  unfolding repeated
  repeated_alike s = behind_alike (a (one Repeat)) (λ l. counted (a (one Star)) l >>= wrapped plan.Repeat F)
      (λ l. counted (a (one Star)) l >>= wrapped plan.Repeat G)
      (behind_alike (a (one Star)) (wrapped plan.Repeat F) (wrapped plan.Repeat G) (wrapped_alike plan.Repeat)) s

  rounds_alike : (s : ℕ) → Alike (suc b) (rounds F s) (rounds G s)
  unfolding rounds
  rounds_alike s = either_alike (suc b) (counted (a (one Star)) s >>= wrapped plan.Iterate F)
      (counted (a (one Star)) s >>= wrapped plan.Iterate G) (counted (a (one Plus)) s >>= wrapped plan.IteratePlus F)
      (counted (a (one Plus)) s >>= wrapped plan.IteratePlus G) (λ t. refl)
      (behind_alike (a (one Star)) (wrapped plan.Iterate F) (wrapped plan.Iterate G) (wrapped_alike plan.Iterate) s)
      (behind_alike (a (one Plus)) (wrapped plan.IteratePlus F) (wrapped plan.IteratePlus G)
      (wrapped_alike plan.IteratePlus) s)

  step_alike : (s : ℕ) → Alike (suc b) (step F s) (step G s)
  unfolding step named inside all_of choice repeated iterated normal
  step_alike s =
      either_alike (suc b) _ _ (from_named F s) (from_named G s) (λ t. refl)
      (alike_refl (suc b) (plain s))
      (either_alike (suc b) (named F s) (named G s) (from_inside F s) (from_inside G s) (λ t. refl) (named_alike s)
      (either_alike (suc b) (inside F s) (inside G s) (from_all F s) (from_all G s) (λ t. refl) (inside_alike s)
      (either_alike (suc b) (all_of F s) (all_of G s) (from_choice F s) (from_choice G s) (λ t. refl) (all_of_alike s)
      (either_alike (suc b) (choice F s) (choice G s) (from_repeated F s) (from_repeated G s) (λ t. refl)
      (behind_alike (a choices) (alternatives F) (alternatives G) alternatives_alike s)
      (either_alike (suc b) (repeated F s) (repeated G s) (from_iterated F s) (from_iterated G s) (λ t. refl)
      (repeated_alike s)
      (either_alike (suc b) (iterated F s) (iterated G s) (normal F s) (normal G s) (λ t. refl)
      (behind_alike (a (one Iterate)) (rounds F) (rounds G) rounds_alike s)
      (behind_alike (a (one Normalise)) (wrapped plan.Normalise F) (wrapped plan.Normalise G)
      (wrapped_alike plan.Normalise) s)))))))

  turn_alike : (x : Left (List Plan)) → Alike (suc b) (one_step F x) (one_step G x)
  turn_alike x = behind_alike (a (one Semicolon)) _ _
      (λ l. then_alike (suc b) (step F l) (step G l) (λ next. pure (behind x.value next))
      (shrinks_keeps (step F l) (step_shrinks F h l)) (step_alike l)) x.left

pub strategy_grows : (b : ℕ) (F G : Counted Plan) → ((s : ℕ) → Shrinks (F s)) → ((s : ℕ) → Alike b (F s) (G s)) →
    (s : ℕ) → Alike (suc b) (strategy_body F s) (strategy_body G s)
unfolding strategy_body more_steps
strategy_grows b F G h e s =
    bind_alike (suc b) (step F s) (step G s) _ _
    (shrinks_keeps (step F s) (step_shrinks F h s)) (step_alike b F G h e s) (λ first.
    then_alike (suc b) (more_steps F (behind [] first)) (more_steps G (behind [] first)) (λ all. pure (turned all))
    (more_steps_keeps F h (behind [] first))
    (loop_alike (suc b) (λ _. a (one Semicolon)) (one_step F) (one_step G) (turn_alike b F G h e) (turn_shrinks F h)
    (behind [] first)))

-- ---- unrolled once

strategy_same : (s : ℕ) → Same (strategy_body strategy s) (strategy s)
unfolding strategy
strategy_same s = unroll (a begins_step) strategy_body strategy_grows strategy_lessens s

pub strategy_reads : (s n : ℕ) (ts : List Seen) →
    (strategy s).read n ts ≡ after ((step strategy s).read n ts)
    (λ first. more_steps strategy (behind [] first) >>= (λ all. pure (turned all)))
unfolding strategy_body
strategy_reads s n ts = sym ((strategy_same s).read n ts)

-- ---- exact

-- with which the alternatives begin, from the last one on

abbrev iterated_first : Symbol → Bool
iterated_first x = one Iterate x || one Normalise x

abbrev repeated_first : Symbol → Bool
repeated_first x = one Repeat x || iterated_first x

abbrev choice_first : Symbol → Bool
choice_first x = choices x || repeated_first x

abbrev all_first : Symbol → Bool
all_first x = one Dk x || choice_first x

abbrev inside_first : Symbol → Bool
inside_first x = one LeftRound x || all_first x

abbrev named_first : Symbol → Bool
named_first x = labels x || inside_first x

sign_counted : (m : ℕ) (x : Symbol) (left : ℕ) → Takes kind m (one x) none (counted (a (one x)) left)
sign_counted m x left = takes_counted (one x) left (sample x) (same_is x)

-- what a strategy may go on with
abbrev pub goes_on : Symbol → Bool
goes_on x = one LeftRound x || one Semicolon x

plain_takes : (m s : ℕ) → Takes kind m plain_steps none (plain s)
unfolding plain same_symbol
plain_takes m s = takes_either (λ t. refl) (then_value (λ l _. made plan.Id l) (sign_counted m Id s))
    (then_value (λ l _. made plan.Fail l) (sign_counted m Fail s)) (separate refl)

module _ (m : ℕ) (h : (s : ℕ) → Stands kind m begins_step goes_on (strategy s)) where
  arm_takes : (x : Left (List Plan)) → Takes kind m (one Comma) goes_on (one_arm strategy x)
  arm_takes x = then_next (sign_counted m Comma x.left) (λ l. stands_value (λ arm _. behind x.value arm) (h l))

  more_arms_may : (x : Left (List Plan)) → May kind m (one Comma) (λ y. one Comma y || goes_on y) (more_arms strategy x)
  unfolding more_arms same_symbol
  more_arms_may x = may_loop arm_takes (separate refl) (within refl) (within refl) x

  arms_takes : (s : ℕ) → Takes kind m (one LeftRound) none (arms strategy s)
  unfolding arms same_symbol
  arms_takes s =
      then_next (sign_counted m LeftRound s) (λ l.
      stands_then_stands (h l) (λ first.
      may_then_stands (more_arms_may (behind [] first)) (λ all.
      so (then_value (λ l2 _. with_left l2 all.value) (sign_counted m RightRound all.left))) (separate refl))
      (separate refl))

  some_arms_may : (s : ℕ) → May kind m (both (one LeftRound) none) (one LeftRound) (some_arms strategy s)
  unfolding arms
  some_arms_may s = may_either (λ t. refl)
      (so (takes_more none_within (then_value (λ all _. some_of all) (arms_takes s)))) may_pure none_apart
      within_itself

  named_takes : (s : ℕ) → Takes kind m labels (one LeftRound) (named strategy s)
  unfolding named labels names
  named_takes s = takes_placed (λ at v past. called at v)
      (then_last (takes_counted labels s (sample Name) refl) some_arms_may)

  inside_takes : (s : ℕ) → Takes kind m (one LeftRound) none (inside strategy s)
  unfolding inside same_symbol
  inside_takes s =
      then_next (sign_counted m LeftRound s) (λ l.
      stands_then_stands (h l) (λ found.
      so (then_value (λ l2 _. with_left l2 found.value) (sign_counted m RightRound found.left))) (separate refl))

  wrapped_takes : (kind_of : Plan → PlanNode) (s : ℕ) → Takes kind m (one LeftRound) none (wrapped kind_of strategy s)
  wrapped_takes kind_of s = then_value (λ found _. made (kind_of found.value) found.left) (inside_takes s)

  all_of_takes : (s : ℕ) → Takes kind m (one Dk) none (all_of strategy s)
  unfolding all_of
  all_of_takes s = then_next (sign_counted m Dk s) (λ l. so (then_value (λ all _. all_among all) (arms_takes l)))

  first_arms_takes : (alone : Bool) (s : ℕ) → Takes kind m (one LeftRound) none (first_arms alone strategy s)
  first_arms_takes alone s = then_value (λ all _. first_among alone all) (arms_takes s)

  alternatives_takes : (s : ℕ) → Takes kind m (λ x. one One x || one LeftRound x) none (alternatives strategy s)
  unfolding alternatives same_symbol
  alternatives_takes s = takes_either (λ t. refl)
      (then_next (sign_counted m One s) (λ l. so (first_arms_takes true l)))
      (first_arms_takes false s) (separate refl)

  choice_takes : (s : ℕ) → Takes kind m choices none (choice strategy s)
  unfolding choice choices
  choice_takes s = then_next (takes_counted choices s (sample Dc) refl) (λ l. so (alternatives_takes l))

  repeated_takes : (s : ℕ) → Takes kind m (one Repeat) none (repeated strategy s)
  unfolding repeated
  repeated_takes s = then_next (sign_counted m Repeat s) (λ l.
      so (then_next (sign_counted m Star l) (λ l2. so (wrapped_takes plan.Repeat l2))))

  rounds_takes : (s : ℕ) → Takes kind m (λ x. one Star x || one Plus x) none (rounds strategy s)
  unfolding rounds same_symbol
  rounds_takes s = takes_either (λ t. refl)
      (then_next (sign_counted m Star s) (λ l. so (wrapped_takes plan.Iterate l)))
      (then_next (sign_counted m Plus s) (λ l. so (wrapped_takes plan.IteratePlus l))) (separate refl)

  iterated_takes : (s : ℕ) → Takes kind m (one Iterate) none (iterated strategy s)
  unfolding iterated
  iterated_takes s = then_next (sign_counted m Iterate s) (λ l. so (rounds_takes l))

  normal_takes : (s : ℕ) → Takes kind m (one Normalise) none (normal strategy s)
  unfolding normal
  normal_takes s = then_next (sign_counted m Normalise s) (λ l. so (wrapped_takes plan.Normalise l))

  -- a step that ends with a parenthesis, and begins with no label
  closed_takes : (s : ℕ) → Takes kind m inside_first none (from_inside strategy s)
  unfolding inside all_of choice repeated iterated choices same_symbol
  closed_takes s =
      takes_either (λ t. refl) (inside_takes s)
      (takes_either (λ t. refl) (all_of_takes s)
      (takes_either (λ t. refl) (choice_takes s)
      (takes_either (λ t. refl) (repeated_takes s)
      (takes_either (λ t. refl) (iterated_takes s) (normal_takes s)
      (separate refl)) (separate refl)) (separate refl)) (separate refl)) (separate refl)

  step_takes : (s : ℕ) → Takes kind m begins_step (one LeftRound) (step strategy s)
  unfolding step plain named labels names choices same_symbol
  step_takes s =
      takes_either (λ t. refl) (takes_more none_within (plain_takes m s))
      (takes_either (λ t. refl) (named_takes s) (takes_more none_within (closed_takes s)) (separate refl)) (separate refl)

  turn_takes : (x : Left (List Plan)) → Takes kind m (one Semicolon) (one LeftRound) (one_step strategy x)
  turn_takes x = then_next (sign_counted m Semicolon x.left)
      (λ l. so (then_value (λ next _. behind x.value next) (step_takes l)))

  more_steps_may : (x : Left (List Plan)) → May kind m (one Semicolon) goes_on (more_steps strategy x)
  unfolding more_steps same_symbol
  more_steps_may x = may_loop turn_takes (separate refl) (within refl) (within refl) x

  strategy_body_takes : (s : ℕ) → Takes kind m begins_step goes_on (strategy_body strategy s)
  unfolding strategy_body same_symbol
  strategy_body_takes s = then_may (step_takes s)
      (λ first. may_value (λ all _. turned all) (more_steps_may (behind [] first))) (separate refl) (within refl)

opens_counted : {A : Type 0} (p : Seen → Bool) (s : ℕ) (f : ℕ → Rule A) → Begins p (counted p s >>= f)
opens_counted p s f = begins_bind p (counted p s) f (begins_counted p s)

plain_opens : (s : ℕ) → Begins (a plain_steps) (plain s)
unfolding plain
plain_opens s = begins_either (a (one Id)) (a (one Fail)) _ _ (opens_counted (a (one Id)) s _)
    (opens_counted (a (one Fail)) s _)

step_opens : (s : ℕ) → Begins (a begins_step) (step strategy s)
unfolding step named inside all_of choice repeated iterated normal
step_opens s =
    begins_either (a plain_steps) (a named_first) (plain s) (from_named strategy s) (plain_opens s)
    (begins_either (a labels) (a inside_first) (named strategy s) (from_inside strategy s)
    (begins_placed (a labels) (λ at v past. called at v) _ (opens_counted (a labels) s (some_arms strategy)))
    (begins_either (a (one LeftRound)) (a all_first) (inside strategy s) (from_all strategy s)
    (opens_counted (a (one LeftRound)) s _)
    (begins_either (a (one Dk)) (a choice_first) (all_of strategy s) (from_choice strategy s)
    (opens_counted (a (one Dk)) s _)
    (begins_either (a choices) (a repeated_first) (choice strategy s) (from_repeated strategy s)
    (opens_counted (a choices) s (alternatives strategy))
    (begins_either (a (one Repeat)) (a iterated_first) (repeated strategy s) (from_iterated strategy s)
    (opens_counted (a (one Repeat)) s _)
    (begins_either (a (one Iterate)) (a (one Normalise)) (iterated strategy s) (normal strategy s)
    (opens_counted (a (one Iterate)) s (rounds strategy))
    (opens_counted (a (one Normalise)) s (wrapped plan.Normalise strategy))))))))

strategy_opens : (s : ℕ) → Begins (a begins_step) (strategy_body strategy s)
unfolding strategy_body
strategy_opens s = begins_bind (a begins_step) (step strategy s) _ (step_opens s)

-- `id` is a strategy
pub strategy_word : (s n : ℕ) → (w : List Seen) × (v : Left Plan) × (strategy s).words n w v
unfolding strategy_body step plain more_steps
strategy_word s n = (
  sample Id ∷ [],
  made plan.Id (s - 1),
  (strategy_same s).words n (sample Id ∷ []) (made plan.Id (s - 1)) (
    sample Id ∷ [],
    [],
    made plan.Id (s - 1),
    inl (inl (sample Id ∷ [], [], s - 1, (sample Id, refl, same_is Id, refl), (refl, refl), refl)),
    ([], [], behind [] (made plan.Id (s - 1)), (0, (refl, refl)), (refl, refl), refl),
    refl,
  ),
)

-- a strategy is read exactly, before whatever begins with no parenthesis and no semicolon
pub strategy_takes : (m s : ℕ) → Takes kind m begins_step goes_on (strategy s)
unfolding strategy
strategy_takes m s = takes_nested kind begins_step goes_on strategy_body strategy_grows strategy_lessens
    strategy_word strategy_opens strategy_body_takes m s

-- ---- loops, by one turn

pub strategy_shrinks : (s : ℕ) → Shrinks (strategy s)
strategy_shrinks s = (strategy_takes 0 s).shrinks

pub more_arms_reads : (x : Left (List Plan)) (n : ℕ) (ts : List Seen) →
    (more_arms strategy x).read n ts ≡ cond (begins_with (a (one Comma)) ts)
    (after ((one_arm strategy x).read n ts) (more_arms strategy)) (done x n ts)
unfolding more_arms
more_arms_reads x n ts = loop_turn (λ _. a (one Comma)) (one_arm strategy) (arm_shrinks strategy strategy_shrinks) x n ts

pub more_steps_reads : (x : Left (List Plan)) (n : ℕ) (ts : List Seen) →
    (more_steps strategy x).read n ts ≡ cond (begins_with (a (one Semicolon)) ts)
    (after ((one_step strategy x).read n ts) (more_steps strategy)) (done x n ts)
unfolding more_steps
more_steps_reads x n ts = loop_turn (λ _. a (one Semicolon)) (one_step strategy)
    (turn_shrinks strategy strategy_shrinks) x n ts

-- ---- a strategy that may be left out

module _ (m : ℕ) where
  pub strategy_plan_takes : Takes kind m begins_step goes_on strategy_plan
  unfolding strategy_plan
  strategy_plan_takes = takes_placed planned (strategy_takes m most_strategy_tokens)

  pub some_strategy_may : May kind m begins_step (λ s. one Semicolon s || begins_step s) some_strategy
  unfolding some_strategy strategy_plan strategy nested same_symbol labels names choices
  some_strategy_may = may_optional (λ t. refl) strategy_plan_takes (within refl) (within refl)
