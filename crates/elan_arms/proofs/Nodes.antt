-- What stands among the arguments of a node is what its patterns bring.
use Rattle.std.proofs.Common.{◌≡◌, refl, sym, ap, ◌∙◌, ◌↔◌, ⊎_elim, subst, ℕ, ◌+◌, ◌≤◌, Bool, true, false, cond, ◌==◌, eq-eqb, List, [], ◌∷◌, ◌++◌, map, length, length-append, flat_map, arith}
use Rattle.elan_terms.specs.declared.tree.OpId.{OpId}
use Rattle.elan_terms.specs.declared.tree.Term.{Term}
use Rattle.elan_terms.specs.declared.tree.Pattern.{Pattern}
use Rattle.elan_terms.specs.declared.tree.Shapes.{Shapes}
use Rattle.elan_terms.specs.Trees.{int_term, app_term}
use Rattle.elan_terms.specs.Term.{is_ac, arms_under, ascending, node}
use Rattle.elan_terms.specs.Match.{instance, occurrences}
use Rattle.elan_terms.specs.Ascending.{NotAfter, Ascends}
use Rattle.elan_terms.specs.Canonical.{is_headed}
use Rattle.elan_terms.specs.Valid.{IsValid}
use Rattle.elan_terms.proofs.Lists.{AllOf, pairs_of, pairs_from, all_append}
use Rattle.elan_terms.proofs.Sorting.{not_true, ascending-pairs, ascending-itself, ascending-length}
use Rattle.elan_terms.proofs.NodeLemmas.{two_arguments}
use Rattle.elan_laws.specs.Parts.{times}
use Rattle.elan_laws.proofs.CanonicalLaws.{node-ac, arms-same, arms-other, headed-app, headed_is, true_or_false}
use Rattle.elan_arms.specs.Arms.{app_pattern, is_variable, heads, apart_node, taken_apart, arms, times_brought, many_brought}
use Rattle.elan_arms.proofs.Times.{times-append, times-ascending, ascending-alike}
use Rattle.elan_arms.proofs.Patterns.{var_pattern, int_pattern, ind_pattern, cases_pattern, instance-of_var, instance-of_int, instance-of_app, apart-same, apart-other, same_arguments, one_operator}

module _ (shapes : Shapes) (value : ℕ → Term) where
  -- what the patterns bring, one after the other
  abbrev pub all_arms : OpId → List Pattern → List Term
  all_arms op ps = flat_map (arms_under op) (map (instance shapes value) ps)

  pub arms-times : (op : OpId) (u : Term) (ps : List Pattern) → times u (all_arms op ps) ≡ times_brought shapes value op u ps
  arms-times op u [] = refl
  arms-times op u (p ∷ ps) = times-append u (arms shapes value op p) (all_arms op ps) ∙ ap (λ n. times u (arms shapes value op p) + n) (arms-times op u ps)

  pub arms-many : (op : OpId) (ps : List Pattern) → length (all_arms op ps) ≡ many_brought shapes value op ps
  arms-many op [] = refl
  arms-many op (p ∷ ps) = length-append (arms shapes value op p) (all_arms op ps) ∙ ap (λ n. length (arms shapes value op p) + n) (arms-many op ps)

  -- some list of arguments
  pub some_arguments : (op : OpId) (ps : List Pattern) → (ts : List Term) × (instance shapes value (app_pattern op ps) ≡ app_term op ts)
  unfolding node
  some_arguments op ps = (cond (is_ac shapes op) (ascending (all_arms op ps)) (map (instance shapes value) ps), instance-of_app shapes value op ps)

  module _ (op : OpId) (ac : is_ac shapes op ≡ true) where
    pub instance-ac : (ps : List Pattern) → instance shapes value (app_pattern op ps) ≡ app_term op (ascending (all_arms op ps))
    instance-ac ps = instance-of_app shapes value op ps ∙ node-ac shapes op (map (instance shapes value) ps) ac

    pub arguments-are : (ps : List Pattern) (ts : List Term) → instance shapes value (app_pattern op ps) ≡ app_term op ts → ascending (all_arms op ps) ≡ ts
    arguments-are ps ts e = same_arguments op op (ascending (all_arms op ps)) ts (sym (instance-ac ps) ∙ e)

    pub arguments-ascend : (ps : List Pattern) (ts : List Term) → instance shapes value (app_pattern op ps) ≡ app_term op ts → Ascends ts
    arguments-ascend ps ts e = subst Ascends (arguments-are ps ts e) (pairs_from NotAfter (ascending (all_arms op ps)) (ascending-pairs (all_arms op ps)))

    pub arguments-times : (ps : List Pattern) (ts : List Term) → instance shapes value (app_pattern op ps) ≡ app_term op ts → (u : Term) → times u ts ≡ times_brought shapes value op u ps
    arguments-times ps ts e u = ap (times u) (sym (arguments-are ps ts e)) ∙ times-ascending u (all_arms op ps) ∙ arms-times op u ps

    pub times-arguments : (ps : List Pattern) (ts : List Term) → Ascends ts → ((u : Term) → times u ts ≡ times_brought shapes value op u ps) → instance shapes value (app_pattern op ps) ≡ app_term op ts
    times-arguments ps ts up h = instance-ac ps
        ∙ ap (app_term op) (ascending-alike (all_arms op ps) ts (λ u. arms-times op u ps ∙ sym (h u)) ∙ ascending-itself ts (pairs_of NotAfter ts up))

    pub arguments-exactly : (ps : List Pattern) (ts : List Term) → Ascends ts → (instance shapes value (app_pattern op ps) ≡ app_term op ts) ↔ ((u : Term) → times u ts ≡ times_brought shapes value op u ps)
    arguments-exactly ps ts up = (arguments-times ps ts, times-arguments ps ts up)

    pub arguments-many : (ps : List Pattern) (ts : List Term) → instance shapes value (app_pattern op ps) ≡ app_term op ts → length ts ≡ many_brought shapes value op ps
    arguments-many ps ts e = ap length (sym (arguments-are ps ts e)) ∙ ascending-length (all_arms op ps) ∙ arms-many op ps

    -- ---- a pattern that the operator heads

    pub nested-arms : (ps : List Pattern) → arms shapes value op (app_pattern op ps) ≡ ascending (all_arms op ps)
    nested-arms ps = ap (arms_under op) (instance-ac ps) ∙ arms-same op (ascending (all_arms op ps))

    pub nested-times : (u : Term) (ps : List Pattern) → times u (arms shapes value op (app_pattern op ps)) ≡ times_brought shapes value op u ps
    nested-times u ps = ap (times u) (nested-arms ps) ∙ times-ascending u (all_arms op ps) ∙ arms-times op u ps

    pub nested-many : (ps : List Pattern) → length (arms shapes value op (app_pattern op ps)) ≡ many_brought shapes value op ps
    nested-many ps = ap length (nested-arms ps) ∙ ascending-length (all_arms op ps) ∙ arms-many op ps

    brought-append : (u : Term) (ps qs : List Pattern) → times_brought shapes value op u (ps ++ qs) ≡ times_brought shapes value op u ps + times_brought shapes value op u qs
    brought-append u [] qs = omega arith
    brought-append u (p ∷ ps) qs = let later : times_brought shapes value op u (ps ++ qs) ≡ times_brought shapes value op u ps + times_brought shapes value op u qs = brought-append u ps qs in omega arith

    -- it brings the same when it gives way
    abbrev GivesWay : Term → Pattern → Type 0
    GivesWay u p = times_brought shapes value op u (apart_node op p.node) ≡ times u (arms shapes value op p)

    all_give_way : (u : Term) (ps : List Pattern) → AllOf (GivesWay u) ps → times_brought shapes value op u (taken_apart op ps) ≡ times_brought shapes value op u ps
    all_give_way u [] h = refl
    all_give_way u (p ∷ ps) h =
        let here : times_brought shapes value op u (apart_node op p.node) ≡ times u (arms shapes value op p) = h.0 in
        let later : times_brought shapes value op u (taken_apart op ps) ≡ times_brought shapes value op u ps = all_give_way u ps h.1 in
        omega (arith, brought-append u (apart_node op p.node) (taken_apart op ps))

    alone : (u : Term) (p : Pattern) → times_brought shapes value op u (p ∷ []) ≡ times u (arms shapes value op p)
    alone u p = omega arith

    gives_way : (u : Term) (p : Pattern) → GivesWay u p
    gives_way u = ind_pattern (GivesWay u) (λ x s. alone u (var_pattern x s)) (λ z. alone u (int_pattern z))
        (λ f ps h. ⊎_elim
        (λ same. ap (times_brought shapes value op u) (apart-same op f ps same) ∙ all_give_way u ps h ∙ sym (nested-times u ps)
        ∙ ap (λ g. times u (arms shapes value op (app_pattern g ps))) (one_operator op f same))
        (λ other. ap (times_brought shapes value op u) (apart-other op f ps other) ∙ alone u (app_pattern f ps))
        (true_or_false (op.0 == f.0)))

    each_gives_way : (u : Term) (ps : List Pattern) → AllOf (GivesWay u) ps
    each_gives_way u [] = tt
    each_gives_way u (p ∷ ps) = (gives_way u p, each_gives_way u ps)

    pub apart-times : (u : Term) (ps : List Pattern) → times_brought shapes value op u (taken_apart op ps) ≡ times_brought shapes value op u ps
    apart-times u ps = all_give_way u ps (each_gives_way u ps)

    pub apart-makes : (ps : List Pattern) → instance shapes value (app_pattern op (taken_apart op ps)) ≡ instance shapes value (app_pattern op ps)
    apart-makes ps = instance-ac (taken_apart op ps)
        ∙ ap (app_term op) (ascending-alike (all_arms op (taken_apart op ps)) (all_arms op ps) (λ u. arms-times op u (taken_apart op ps) ∙ apart-times u ps ∙ sym (arms-times op u ps)))
        ∙ sym (instance-ac ps)

  -- ---- a pattern that it does not head

  pub instance-headed : (op f : OpId) (ps : List Pattern) → is_headed op (instance shapes value (app_pattern f ps)) ≡ (op.0 == f.0)
  instance-headed op f ps = let k : (ts : List Term) × (instance shapes value (app_pattern f ps) ≡ app_term f ts) = some_arguments f ps in
      ap (is_headed op) k.1 ∙ headed-app op f k.0

  pub other-arms : (op : OpId) (p : Pattern) → is_variable p ≡ false → heads op p ≡ false → arms shapes value op p ≡ instance shapes value p ∷ []
  other-arms op = cases_pattern (λ p. is_variable p ≡ false → heads op p ≡ false → arms shapes value op p ≡ instance shapes value p ∷ [])
      (λ x s v h. not_true v)
      (λ z v h. arms-other op (instance shapes value (int_pattern z)) (ap (is_headed op) (instance-of_int shapes value z)))
      (λ f ps v h. arms-other op (instance shapes value (app_pattern f ps)) (instance-headed op f ps ∙ h))

  -- a valid term brings some
  pub valid-arms : (op : OpId) (t : Term) → is_ac shapes op ≡ true → IsValid shapes t → 1 ≤ length (arms_under op t)
  valid-arms op t ac v = ⊎_elim
      (λ e. let two : 2 ≤ length (arms_under op t) = two_arguments shapes op (arms_under op t) ac (subst (IsValid shapes) (headed_is op t e) v) in omega arith)
      (λ e. subst (λ us. 1 ≤ length us) (sym (arms-other op t e)) (omega arith))
      (true_or_false (is_headed op t))

-- ---- nothing is left that the operator heads

others_node : (op : OpId) (p : Pattern) → AllOf (λ q. heads op q ≡ false) (apart_node op p.node)
others_node op = ind_pattern (λ p. AllOf (λ q. heads op q ≡ false) (apart_node op p.node)) (λ x s. (refl, tt)) (λ z. (refl, tt))
    (λ f ps h. ⊎_elim
    (λ same. subst (AllOf (λ q. heads op q ≡ false)) (sym (apart-same op f ps same)) (each ps h))
    (λ other. subst (AllOf (λ q. heads op q ≡ false)) (sym (apart-other op f ps other)) (other, tt))
    (true_or_false (op.0 == f.0)))
  where
    each : (ps : List Pattern) → AllOf (λ p. AllOf (λ q. heads op q ≡ false) (apart_node op p.node)) ps → AllOf (λ q. heads op q ≡ false) (taken_apart op ps)
    each [] h = tt
    each (p ∷ ps) h = all_append (λ q. heads op q ≡ false) (apart_node op p.node) (taken_apart op ps) h.0 (each ps h.1)

pub none-headed : (op : OpId) (ps : List Pattern) → AllOf (λ q. heads op q ≡ false) (taken_apart op ps)
none-headed op [] = tt
none-headed op (p ∷ ps) = all_append (λ q. heads op q ≡ false) (apart_node op p.node) (taken_apart op ps) (others_node op p) (none-headed op ps)
