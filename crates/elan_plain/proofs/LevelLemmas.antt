-- One level of the meaning, as the engine goes through it.
use Rattle.std.proofs.Common.{◌≡◌, refl, sym, ◌∙◌, ap, ℕ, suc, ◌-◌, ◌<◌, ℤ, Bool, true, false, ◌==◌, Option, Some, None, List, [], ◌∷◌, ◌++◌, map, append-nil, append_assoc, arith}
use Rattle.std.specs.Prelude.{nat_lt}
use Rattle.elan_terms.specs.declared.tree.OpId.{OpId}
use Rattle.elan_terms.specs.declared.tree.Term.{Term}
use Rattle.elan_terms.specs.declared.tree.Pattern.{Pattern}
use Rattle.elan_terms.specs.declared.tree.PatternNode as pattern
use Rattle.elan_terms.specs.Term.{depth, node}
use Rattle.elan_terms.proofs.WeightLemmas.{falls}
use Rattle.elan_program.specs.declared.strategy.Strategy.{Strategy}
use Rattle.std.specs.List.{flat_map}
use Rattle.elan_program.specs.declared.program.Program.{Program}
use Rattle.elan_program.specs.declared.program.Rule.{Rule}
use Rattle.elan_program.specs.Signature.{shapes_of}
use Rattle.elan_program.specs.Extension.{unlabelled}
use Rattle.elan_program.specs.Builtins.{reduced}
use Rattle.elan_program.specs.declared.strategy.StrategyNode.TheVariants as made_as
use Rattle.elan_program.specs.Strategies.{made}
use Rattle.elan_program.proofs.StrategyWeights.{strategy_falls}
use Rattle.elan_terms.specs.declared.tree.TermNode as term
use Rattle.elan_terms.specs.Trees.{case_term}
use Rattle.elan_terms.proofs.TreeLemmas.{case_term-app}
use Rattle.elan_meaning.specs.declared.item.Item.{Item}
use Rattle.elan_meaning.specs.declared.item.Cause.{Cause}
use Rattle.elan_meaning.specs.declared.item.Cause.TheVariants.{Depth}
use Rattle.elan_meaning.specs.declared.item.Item.TheVariants.{Res, Mark}
use Rattle.elan_meaning.specs.declared.item.Entry.{Entry}
use Rattle.elan_meaning.specs.declared.item.Entry.TheVariants.{At, Stop}
use Rattle.elan_meaning.specs.Items.{first_or, or_else, on_results, items_of, one_of, after, in_turn, rows, paired}
use Rattle.elan_meaning.specs.Meaning as meaning
use Rattle.elan_meaning.specs.Meaning.{Meaning, level, nothing, below, answers, max_depth}
use Rattle.elan_meaning.proofs.NormalRules.{normal-var, normal-int, normal-app, then_after-is}
use Rattle.elan_meaning.proofs.PlaceRules as place
use Rattle.elan_meaning.proofs.StrategyRules as strategy
use Rattle.elan_meaning.proofs.ClauseRules as clause
use Rattle.elan_plain.specs.declared.world.World.{World}
use Rattle.elan_plain.specs.declared.world.Ask.{Ask}
use Rattle.elan_plain.specs.declared.world.Ask.TheVariants.{Body, Run, Repeat, Iterate, Place}
use Rattle.elan_plain.specs.Engine.{IsWorld, apply_on, asked, first, behind}

-- ---- the first item

first_some : (is : List Item) (i j : Item) → Some i ≡ first is → i ≡ first_or is j
first_some [] i j e = absurd (no_path e)
  where
    no_path : Some i ≡ None → ⊥
    no_path f = cc
first_some (k ∷ is) i j e = cc

first_none : (is : List Item) (j : Item) → None ≡ first is → j ≡ first_or is j
first_none [] j e = refl
first_none (k ∷ is) j e = absurd (no_path e)
  where
    no_path : None ≡ Some k → ⊥
    no_path f = cc

first_joined : (is js ks : List Item) → first js ≡ first ks → first (is ++ js) ≡ first (or_else is ks)
first_joined [] js ks e = e
first_joined (i ∷ is) js ks e = refl

-- the first item of the rules' lists, joined, is that of the first list that has any
tried-joined : (p : Program) (M : Meaning) (u : Term) (n : ℕ) (rs : List Rule)
    → first (flat_map (apply_on p M u n) rs) ≡ first (meaning.tried p M rs u n)
unfolding apply_on
tried-joined p M u n [] = refl
tried-joined p M u n (r ∷ rs) =
    first_joined (meaning.apply p M r u n) (flat_map (apply_on p M u n) rs) (meaning.tried p M rs u n) (tried-joined p M u n rs)

-- ---- a node on its own

module _ (w : World) (is : IsWorld w) (M : Meaning) (u : Term) (n : ℕ) where
  pub of_node-deep : nat_lt max_depth (depth u) ≡ true → Mark Depth ≡ meaning.of_node w.program.now M u n
  unfolding meaning.of_node
  of_node-deep deep = rw deep refl

  module _ (v : Term) (flat : nat_lt max_depth (depth u) ≡ false) (e : v ≡ reduced w.program.now.signature u) where
    tried_at : first_or (meaning.tried w.program.now M (unlabelled w.program.now) v n) (Res v n) ≡ meaning.of_node w.program.now M u n
    unfolding meaning.of_node
    tried_at = rw (flat, e) refl

    -- what the rules give, joined
    abbrev given : List Item
    given = flat_map (apply_on w.program.now M v n) (unlabelled w.program.now)

    same_first : first given ≡ first (meaning.tried w.program.now M (unlabelled w.program.now) v n)
    same_first = tried-joined w.program.now M v n (unlabelled w.program.now)

    pub of_node-tried : (i : Item) → Some i ≡ first given → i ≡ meaning.of_node w.program.now M u n
    of_node-tried i found =
        first_some (meaning.tried w.program.now M (unlabelled w.program.now) v n) i (Res v n) (found ∙ same_first) ∙ tried_at

    pub of_node-stays : None ≡ first given → Res v n ≡ meaning.of_node w.program.now M u n
    of_node-stays none =
        first_none (meaning.tried w.program.now M (unlabelled w.program.now) v n) (Res v n) (none ∙ same_first) ∙ tried_at

pub ruleset settling = (of_node-deep, of_node-tried, of_node-stays)

pub joined-first : (is js : List Item) → None ≡ first is → first js ≡ first (is ++ js)
joined-first [] js e = refl
joined-first (i ∷ is) js e = absurd (no_path e)
  where
    no_path : None ≡ Some i → ⊥
    no_path f = cc

pub joined-found : (is js : List Item) (i : Item) → Some i ≡ first is → Some i ≡ first (is ++ js)
joined-found [] js i e = absurd (no_path e)
  where
    no_path : Some i ≡ None → ⊥
    no_path f = cc
joined-found (j ∷ is) js i e = e

pub ruleset firsts = (joined-first, joined-found)

-- ---- rows of arguments

pub behind-nothing : (e : Entry) → behind [] e ≡ e
behind-nothing (At ts m) = refl
behind-nothing (Stop c) = refl

pub behind-after : (ts : List Term) (t : Term) (e : Entry) → behind (ts ++ t ∷ []) e ≡ behind ts (after t e)
behind-after ts t (At us m) = ap (λ vs. At vs m) (append_assoc ts (t ∷ []) us)
behind-after ts t (Stop c) = refl

module _ (p : Program) (M : Meaning) (q : Pattern) (a : List Term) (n : ℕ) (op : OpId) (args : List Pattern) (e : q.node ≡ pattern.App op args) where
  pub normal-left : (ts : List Term) (m : ℕ) → At ts m ≡ behind [] (in_turn (map (meaning.normal p M) args) a n)
      → meaning.of_node p M (node (shapes_of p.signature) op ts) m ≡ meaning.normal p M q a n
  unfolding meaning.of_args
  normal-left ts m is =
      ap (λ e. one_of e (meaning.of_args p M op)) (is ∙ behind-nothing _) ∙ sym (normal-app p M q a n op args e)

  pub normal-stopped : (c : Cause) → Stop c ≡ behind [] (in_turn (map (meaning.normal p M) args) a n) → Mark c ≡ meaning.normal p M q a n
  normal-stopped c is = ap (λ e. one_of e (meaning.of_args p M op)) (is ∙ behind-nothing _) ∙ sym (normal-app p M q a n op args e)

pub ruleset normals = (falls, normal-var, normal-int, normal-left, normal-stopped, behind-after, then_after-is, append-nil)

-- ---- positions, strategies and conditions

pub ruleset places = (falls, place.positions-int, place.positions-app, place.then_before-is)

pub ruleset strategies = (strategy_falls, strategy.strategies)

-- ---- congruences

module _ (p : Program) (M : Meaning) (op : OpId) (fs : List (Term → ℕ → List Item)) (n : ℕ) (t : Term) where
  -- the list of a congruence
  abbrev of_congruence : Term → List Item
  of_congruence = case_term (meaning.not_headed p M) (meaning.congruent p M op fs n)

  pub congruence-int : (z : ℤ) → t.node ≡ term.Int z → [] ≡ of_congruence t
  congruence-int z e = sym (ap (λ i. of_congruence (record { node = i })) e)

  congruence-app : (head : OpId) (args : List Term) → t.node ≡ term.App head args → of_congruence t ≡ meaning.congruent p M op fs n head args
  congruence-app head args e =
      ap (λ i. of_congruence (record { node = i })) e ∙ case_term-app (meaning.not_headed p M) (meaning.congruent p M op fs n) head args

  module _ (head : OpId) (args : List Term) (e : t.node ≡ term.App head args) where
    pub congruence-same : (op.0 == head.0) ≡ true
        → items_of (rows (paired fs args) n) (meaning.normal_app p M op) ≡ of_congruence t
    congruence-same is = sym (congruence-app head args e ∙ rw is refl)

    pub congruence-other : (op.0 == head.0) ≡ false → [] ≡ of_congruence t
    congruence-other is = sym (congruence-app head args e ∙ rw is refl)

pub ruleset congruences = (congruence-int, congruence-same, congruence-other, place.then_before-is)

-- ---- what is asked for

module _ (p : Program) (M : Meaning) (s : Strategy) (t : Term) (n : ℕ) where
  pub asked-repeat : meaning.strategy p M (made (made_as.Repeat s)) t n ≡ meaning.repeat p M s t n
  asked-repeat = strategy.strategy-repeat p M (made (made_as.Repeat s)) t n s refl

  pub asked-iterate : meaning.strategy p M (made (made_as.Iterate s)) t n ≡ meaning.iterate p M s t n
  asked-iterate = strategy.strategy-iterate p M (made (made_as.Iterate s)) t n s refl

pub ruleset asks = (asked-repeat, asked-iterate)

pub ruleset conditions = (clause.conditions)

-- ---- the levels

nothing_asked : (p : Program) (ask : Ask) (n : ℕ) → asked p nothing ask n ≡ []
nothing_asked p (Body r a) n = refl
nothing_asked p (Run s t) n = refl
nothing_asked p (Repeat s t) n = refl
nothing_asked p (Iterate s t) n = refl
nothing_asked p (Place sort s t) n = refl

pub asked-none : (p : Program) (ask : Ask) (n k : ℕ) → k ≡ 0 → [] ≡ asked p (below p k) ask n
unfolding below
asked-none p ask n k e = sym (ap (λ i. asked p (below p i) ask n) e ∙ nothing_asked p ask n)

pub asked-level : (p : Program) (ask : Ask) (n k : ℕ) → 0 < k → asked p (level p (below p (k - 1))) ask n ≡ asked p (below p k) ask n
unfolding below
asked-level p ask n k some = let e : suc (k - 1) ≡ k = omega arith in ap (λ i. asked p (below p i) ask n) e

module _ (p : Program) (start : Strategy) (query : Pattern) (n : ℕ) where
  pub answers-mark : (c : Cause) → meaning.normal p (below p n) query [] n ≡ Mark c → answers p start query n ≡ Mark c ∷ []
  unfolding answers
  answers-mark c e = ap (λ i. on_results (i ∷ []) (meaning.strategy p (below p n) start)) e

  pub answers-result : (t : Term) (m : ℕ) → meaning.normal p (below p n) query [] n ≡ Res t m → answers p start query n ≡ meaning.strategy p (below p n) start t m
  unfolding answers
  answers-result t m e = ap (λ i. on_results (i ∷ []) (meaning.strategy p (below p n) start)) e ∙ append-nil _

pub ruleset knots = (asked-none, asked-level, answers-mark, answers-result)
