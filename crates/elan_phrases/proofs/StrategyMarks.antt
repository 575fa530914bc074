-- A front of a strategy is marked exactly where it has more tokens than the limit.
use Rattle.std.proofs.Common.{◌≡◌, ℕ, suc, ◌<◌, Bool, true, false, cond, List, [], ◌∷◌, ◌++◌, length, refl, sym, ap, subst, ◌∙◌, arith}
use Rattle.std.specs.Prelude.{◌↔◌, count_by}
use Rattle.std.proofs.lemmas.List.Sums.{sum_by-cons}
use Rattle.elan_forms.specs.Whole.{Possible, EndsWith, IsFirstMark}
use Rattle.elan_forms.specs.Form.{◌>>=◌, counted, pure}
use Rattle.elan_forms.proofs.Marks.{Counts, itself, counts_less, counts_pure, counts_counted, counts_then, counts_behind, counts_placed, counts_either, counts_loop, counts_nested, marks_are, first_mark}
use Rattle.elan_phrases.specs.declared.left.Left.{Left}
use Rattle.elan_phrases.specs.declared.plan.Plan.{Plan}
use Rattle.elan_phrases.specs.declared.plan.PlanNode.{PlanNode}
use Rattle.elan_phrases.specs.declared.plan.PlanNode.TheVariants as plan
use Rattle.elan_phrases.specs.declared.symbol.Symbol.{Symbol}
use Rattle.elan_phrases.specs.declared.symbol.Symbol.TheVariants.{Comma, Semicolon, LeftRound, RightRound, Star, Plus, Id, Fail, Dk, One, Dc, Repeat, Iterate, Normalise, Name}
use Rattle.elan_phrases.specs.Symbols.{Seen, one, a, names, labels, choices}
use Rattle.elan_phrases.specs.Beginnings.{begins_step}
use Rattle.elan_phrases.specs.Tokens.{Rule}
use Rattle.elan_phrases.specs.Strategies.{Counted, with_left, made, behind, one_arm, more_arms, arms, inside, plain, some_of, some_arms, called, named, all_among, all_of, first_among, first_arms, alternatives, choice, wrapped, repeated, rounds, iterated, normal, step, one_step, more_steps, turned, strategy_body, strategy}
use Rattle.elan_phrases.proofs.SymbolSets.{same_is}
use Rattle.elan_phrases.proofs.ExactTokens.{sample}
use Rattle.elan_phrases.proofs.ExactStrategies.{from_named, from_inside, from_all, from_choice, from_repeated, from_iterated, strategy_grows, strategy_lessens, strategy_word}

-- each token counts
abbrev each : Seen → Bool
each t = true

-- how many tokens are left behind what was taken
abbrev rest_of : {V : Type 0} → Left V → ℕ
rest_of x = x.left

-- a counted rule whose tokens count, on texts shorter than a bound
abbrev CountsAll : {V : Type 0} → ℕ → Counted V → Type 0
CountsAll b S = (left : ℕ) → Counts each b left rest_of (S left)

sign_counts : (b : ℕ) (s : Symbol) (left : ℕ) → Counts each b left itself (counted (a (one s)) left)
sign_counts b s left = counts_counted each b left (a (one s)) (sample s) (same_is s) (λ t e. refl)

-- behind a token the bound is one more
behind_token : {V : Type 0} (b : ℕ) (p : Symbol → Bool) (s : Symbol) (S : Counted V) → p s ≡ true → CountsAll b S →
    CountsAll (suc b) (λ left. counted (a p) left >>= S)
behind_token b p s S e h left = counts_behind each b left rest_of (a p) (sample s) S e (λ t x. refl) h

less : {V : Type 0} (b : ℕ) (R : Counted V) → CountsAll (suc b) R → CountsAll b R
less b R k left = counts_less each b (suc b) left rest_of (R left) (omega arith) (k left)

-- a value that is made of what was taken, and leaves as much
value_counts : {A B : Type 0} (b left : ℕ) (f : Rule (Left A)) (value : Left A → Left B) →
    ((x : Left A) → (value x).left ≡ x.left) → Counts each b left rest_of f →
    Counts each b left rest_of (f >>= (λ x. pure (value x)))
value_counts b left f value same h = counts_then each b left rest_of rest_of f (λ x. pure (value x)) h
    (λ x. subst (λ z. Counts each b z rest_of (pure (value x))) (same x) (counts_pure each b rest_of (value x)))

-- the sign that closes, behind which as much is left as the sign leaves
closing_counts : {V : Type 0} (b : ℕ) (left : ℕ) (value : V) →
    Counts each b left rest_of (counted (a (one RightRound)) left >>= (λ l. pure (with_left l value)))
closing_counts b left value = counts_then each b left itself rest_of (counted (a (one RightRound)) left)
    (λ l. pure (with_left l value)) (sign_counts b RightRound left)
    (λ l. counts_pure each b rest_of (with_left l value))

plain_counts : (b : ℕ) → CountsAll b plain
unfolding plain
plain_counts b left = counts_either each b left rest_of _ _ (word Id plan.Id) (word Fail plan.Fail)
  where
    word : (s : Symbol) (node : PlanNode) →
        Counts each b left rest_of (counted (a (one s)) left >>= (λ l. pure (made node l)))
    word s node = counts_then each b left itself rest_of (counted (a (one s)) left) (λ l. pure (made node l))
        (sign_counts b s left) (λ l. counts_pure each b rest_of (made node l))

module _ (b : ℕ) (h : CountsAll b strategy) where
  arm_counts : (x : Left (List Plan)) → Counts each b x.left rest_of (one_arm strategy x)
  arm_counts x = less b _ (behind_token b (one Comma) Comma _ (same_is Comma)
      (λ l. value_counts b l (strategy l) (behind x.value) (λ y. refl) (h l))) x.left

  more_arms_counts : (x : Left (List Plan)) → Counts each b x.left rest_of (more_arms strategy x)
  unfolding more_arms
  more_arms_counts = counts_loop each b rest_of (λ _. a (one Comma)) (one_arm strategy) arm_counts

  arms_counts : CountsAll (suc b) (arms strategy)
  unfolding arms
  arms_counts = behind_token b (one LeftRound) LeftRound _ (same_is LeftRound) (λ l.
      counts_then each b l rest_of rest_of (strategy l) _ (h l) (λ first.
      counts_then each b first.left rest_of rest_of (more_arms strategy (behind [] first)) _
      (more_arms_counts (behind [] first)) (λ all. closing_counts b all.left all.value)))

  inside_counts : CountsAll (suc b) (inside strategy)
  unfolding inside
  inside_counts = behind_token b (one LeftRound) LeftRound _ (same_is LeftRound) (λ l.
      counts_then each b l rest_of rest_of (strategy l) _ (h l) (λ found. closing_counts b found.left found.value))

  wrapped_counts : (kind_of : Plan → PlanNode) → CountsAll (suc b) (wrapped kind_of strategy)
  wrapped_counts kind_of left = value_counts (suc b) left (inside strategy left)
      (λ found. made (kind_of found.value) found.left) (λ x. refl) (inside_counts left)

  -- behind a token, what counts on longer texts does so
  after_token : {V : Type 0} (p : Symbol → Bool) (s : Symbol) (S : Counted V) → p s ≡ true → CountsAll (suc b) S →
      CountsAll (suc b) (λ left. counted (a p) left >>= S)
  after_token p s S e k = less (suc b) _ (behind_token (suc b) p s S e k)

  some_arms_counts : CountsAll (suc b) (some_arms strategy)
  some_arms_counts left = counts_either each (suc b) left rest_of (arms strategy left >>= (λ all. pure (some_of all)))
      (pure (with_left left _)) (value_counts (suc b) left (arms strategy left) some_of (λ x. refl) (arms_counts left))
      (counts_pure each (suc b) rest_of (with_left left _))

  named_counts : CountsAll (suc b) (named strategy)
  unfolding named labels names
  named_counts left = counts_placed each (suc b) left rest_of rest_of (λ at v past. called at v)
      (counted (a labels) left >>= some_arms strategy) (λ n v m. refl)
      (after_token labels Name (some_arms strategy) refl some_arms_counts left)

  all_of_counts : CountsAll (suc b) (all_of strategy)
  unfolding all_of
  all_of_counts = after_token (one Dk) Dk _ (same_is Dk)
      (λ l. value_counts (suc b) l (arms strategy l) all_among (λ x. refl) (arms_counts l))

  first_arms_counts : (alone : Bool) → CountsAll (suc b) (first_arms alone strategy)
  first_arms_counts alone left = value_counts (suc b) left (arms strategy left) (first_among alone) (λ x. refl)
      (arms_counts left)

  alternatives_counts : CountsAll (suc b) (alternatives strategy)
  unfolding alternatives
  alternatives_counts left = counts_either each (suc b) left rest_of
      (counted (a (one One)) left >>= first_arms true strategy) (first_arms false strategy left)
      (after_token (one One) One (first_arms true strategy) (same_is One) (first_arms_counts true) left)
      (first_arms_counts false left)

  choice_counts : CountsAll (suc b) (choice strategy)
  unfolding choice choices
  choice_counts = after_token choices Dc (alternatives strategy) refl alternatives_counts

  repeated_counts : CountsAll (suc b) (repeated strategy)
  unfolding repeated
  repeated_counts = after_token (one Repeat) Repeat _ (same_is Repeat) (after_token (one Star) Star
      (wrapped plan.Repeat strategy) (same_is Star) (wrapped_counts plan.Repeat))

  rounds_counts : CountsAll (suc b) (rounds strategy)
  unfolding rounds
  rounds_counts left = counts_either each (suc b) left rest_of (counted (a (one Star)) left >>= wrapped plan.Iterate strategy)
      (counted (a (one Plus)) left >>= wrapped plan.IteratePlus strategy)
      (after_token (one Star) Star (wrapped plan.Iterate strategy) (same_is Star) (wrapped_counts plan.Iterate) left)
      (after_token (one Plus) Plus (wrapped plan.IteratePlus strategy) (same_is Plus) (wrapped_counts plan.IteratePlus)
      left)

  iterated_counts : CountsAll (suc b) (iterated strategy)
  unfolding iterated
  iterated_counts = after_token (one Iterate) Iterate (rounds strategy) (same_is Iterate) rounds_counts

  normal_counts : CountsAll (suc b) (normal strategy)
  unfolding normal
  normal_counts = after_token (one Normalise) Normalise (wrapped plan.Normalise strategy) (same_is Normalise)
      (wrapped_counts plan.Normalise)

  step_counts : CountsAll (suc b) (step strategy)
  unfolding step
  step_counts s =
      counts_either each (suc b) s rest_of (plain s) (from_named strategy s) (plain_counts (suc b) s)
      (counts_either each (suc b) s rest_of (named strategy s) (from_inside strategy s) (named_counts s)
      (counts_either each (suc b) s rest_of (inside strategy s) (from_all strategy s) (inside_counts s)
      (counts_either each (suc b) s rest_of (all_of strategy s) (from_choice strategy s) (all_of_counts s)
      (counts_either each (suc b) s rest_of (choice strategy s) (from_repeated strategy s) (choice_counts s)
      (counts_either each (suc b) s rest_of (repeated strategy s) (from_iterated strategy s) (repeated_counts s)
      (counts_either each (suc b) s rest_of (iterated strategy s) (normal strategy s) (iterated_counts s)
      (normal_counts s)))))))

  turn_counts : (x : Left (List Plan)) → Counts each (suc b) x.left rest_of (one_step strategy x)
  turn_counts x = after_token (one Semicolon) Semicolon _ (same_is Semicolon)
      (λ l. value_counts (suc b) l (step strategy l) (behind x.value) (λ y. refl) (step_counts l)) x.left

  more_steps_counts : (x : Left (List Plan)) → Counts each (suc b) x.left rest_of (more_steps strategy x)
  unfolding more_steps
  more_steps_counts = counts_loop each (suc b) rest_of (λ _. a (one Semicolon)) (one_step strategy) turn_counts

  strategy_body_counts : CountsAll (suc b) (strategy_body strategy)
  unfolding strategy_body
  strategy_body_counts left = counts_then each (suc b) left rest_of rest_of (step strategy left) _ (step_counts left)
      (λ first. value_counts (suc b) first.left (more_steps strategy (behind [] first)) turned (λ x. refl)
      (more_steps_counts (behind [] first)))

strategy_counts : (b : ℕ) → CountsAll b strategy
unfolding strategy
strategy_counts b = counts_nested each rest_of (a begins_step) strategy_body strategy_grows strategy_lessens
    strategy_word strategy_body_counts b

-- ---- as each token counts, its length is what counts

count_each : (ts : List Seen) → count_by each ts ≡ length ts
count_each [] = refl
count_each (t ∷ ts) = omega (arith, sum_by-cons (λ x. cond (each x) 1 0) t ts, count_each ts)

ends_each : (ts : List Seen) → 0 < length ts → EndsWith each ts
ends_each [] lt = absurd (omega arith)
ends_each (t ∷ []) lt = ([], t, refl, refl)
ends_each (t ∷ u ∷ ts) lt = let e = ends_each (u ∷ ts) (omega arith) in (t ∷ e.0, e.1, ap (λ z. t ∷ z) e.2, e.3)

pub strategy_marks : (left n : ℕ) (front : List Seen) →
    (strategy left).marks n front ↔ ((left < length front) × Possible ((strategy left).words n) front)
strategy_marks left n front = (
  λ m. let k = are.0 m in (omega (arith, k.1, count_each front), k.2),
  λ (lt, possible). are.1 (ends_each front (omega arith), omega (arith, count_each front), possible),
)
  where
    are : (strategy left).marks n front ↔
        (EndsWith each front × (left < count_by each front) × Possible ((strategy left).words n) front)
    are = marks_are each left rest_of (strategy left) (λ b. strategy_counts b left) n front

pub strategy_first_mark : (left n : ℕ) (front : List Seen) (t : Seen) → IsFirstMark ((strategy left).marks n) front t ↔
    ((length front ≡ left) × Possible ((strategy left).words n) (front ++ t ∷ []))
strategy_first_mark left n front t = (
  λ m. let k = first.0 m in (sym (count_each front) ∙ k.1, k.2),
  λ (e, possible). first.1 (refl, count_each front ∙ e, possible),
)
  where
    first : IsFirstMark ((strategy left).marks n) front t ↔
        ((each t ≡ true) × (count_by each front ≡ left) × Possible ((strategy left).words n) (front ++ t ∷ []))
    first = first_mark each left rest_of (strategy left) (λ b. strategy_counts b left) n front t
