-- What validity says of the rules, the named strategies and the operators of a program.
use Rattle.std.proofs.Common.{◌≡◌, refl, sym, ap, subst, ℕ, zero, suc, ◌<◌, ◌&&◌, nat_lt, ltb-true, Bool, true, Option, None, Some, List, [], ◌∷◌, length}
use Rattle.std.specs.Prelude.{slice_get}
use Rattle.std.specs.List.{list_all}
use Rattle.elan_terms.specs.declared.tree.SortId.{SortId}
use Rattle.elan_terms.specs.declared.tree.Pattern.{Pattern}
use Rattle.elan_terms.specs.Match.{is_sort, variables}
use Rattle.elan_program.specs.declared.signature.Operator.{Operator}
use Rattle.elan_program.specs.declared.strategy.Scope.TheVariants.{Inside}
use Rattle.elan_program.specs.declared.program.Rule.{Rule}
use Rattle.elan_program.specs.declared.program.Named.{Named}
use Rattle.elan_program.specs.declared.program.Program.{Program}
use Rattle.elan_program.specs.Signature.{shapes_of}
use Rattle.elan_program.specs.Soundness.{most, has_sort_id, is_sound, is_sound_operator, int_fits, truth_fits, has_no_cycle}
use Rattle.elan_program.specs.Patterns.{pattern_sort, uses, binds}
use Rattle.elan_program.specs.Validity.{IsValid, is_valid, is_valid_rule, is_valid_named, is_valid_strategy, has_sides, is_bound_right, bound_by}
use Rattle.elan_terms.proofs.Sorting.{not_true}
use Rattle.elan_laws.proofs.MatchLaws.{is_sort-some}
use Rattle.elan_kinds.proofs.Keeping.{IsGood}
use Rattle.elan_kinds.proofs.SortFits.{both}

pub no_item : {X A : Type 0} (x : X) → None ≡ Some x → A
no_item x e = absurd (differ e)
  where
    differ : None ≡ Some x → ⊥
    differ f = cc

pub item_inside : {X : Type 0} (x y : X) → Some x ≡ Some y → x ≡ y
item_inside x y e = ap (λ o. elim o as (λ _. _) [ None ↦ x | Some z ↦ z ]) e

pub all_place : {X : Type 0} (f : X → Bool) (xs : List X) (k : ℕ) (x : X) → list_all f xs ≡ true → slice_get xs k ≡ Some x → f x ≡ true
all_place f [] k x h e = no_item x e
all_place f (y ∷ xs) zero x h e = subst (λ z. f z ≡ true) (item_inside y x e) (both (f y) (list_all f xs) h).0
all_place f (y ∷ xs) (suc k) x h e = all_place f xs k x (both (f y) (list_all f xs) h).1 e

bound_right : (right : Pattern) (o : Option (List (ℕ × SortId))) → is_bound_right right o ≡ true → (later : List (ℕ × SortId)) × (o ≡ Some later) × (uses later right ≡ true) × (length later < most)
bound_right right None e = not_true (sym e)
bound_right right (Some later) e = let k : (uses later right ≡ true) × (nat_lt (length later) most ≡ true) = both (uses later right) (nat_lt (length later) most) e in (later, refl, k.0, ltb-true (length later) most k.1)

-- a good rule of a sort that is there, with not too many variables
pub record Checked (p : Program) (r : Rule) : Type 0 where
  pub good : IsGood p r
  pub few : length good.later < most
  pub there : has_sort_id p.signature r.sort ≡ true

pub checked : (p : Program) (r : Rule) → is_valid_rule p r ≡ true → Checked p r
unfolding is_valid_rule
checked p r e =
    let sorts : ℕ = length p.signature.sorts in
    let k : (has_sides p r ≡ true) × ((binds sorts 0 r.left && is_bound_right r.right (bound_by p (variables r.left) r.clauses)) ≡ true) = both _ _ e in
    let s : ((has_sort_id p.signature r.sort && is_sort (pattern_sort (shapes_of p.signature) r.left) r.sort) ≡ true) × (is_sort (pattern_sort (shapes_of p.signature) r.right) r.sort ≡ true) = both _ _ k.0 in
    let l : (has_sort_id p.signature r.sort ≡ true) × (is_sort (pattern_sort (shapes_of p.signature) r.left) r.sort ≡ true) = both _ _ s.0 in
    let b : (binds sorts 0 r.left ≡ true) × (is_bound_right r.right (bound_by p (variables r.left) r.clauses) ≡ true) = both _ _ k.1 in
    let h : (later : List (ℕ × SortId)) × (bound_by p (variables r.left) r.clauses ≡ Some later) × (uses later r.right ≡ true) × (length later < most) = bound_right r.right (bound_by p (variables r.left) r.clauses) b.1 in
    record {
      good = record {
        fresh = b.0;
        left = is_sort-some (pattern_sort (shapes_of p.signature) r.left) r.sort l.1;
        later = h.0;
        bound = h.1;
        right = record { used = h.2; sorted = is_sort-some (pattern_sort (shapes_of p.signature) r.right) r.sort s.1 };
      };
      few = h.3;
      there = l.0;
    }

module _ (p : Program) (valid : IsValid p) where
  halves : ((is_sound p.signature && (nat_lt (length p.rules) most && nat_lt (length p.named) most)) ≡ true) × ((list_all (is_valid_rule p) p.rules && list_all (is_valid_named p) p.named) ≡ true)
  unfolding is_valid
  halves = both _ _ valid

  pub sound : is_sound p.signature ≡ true
  sound = (both (is_sound p.signature) (nat_lt (length p.rules) most && nat_lt (length p.named) most) halves.0).0

  pub all_rules : list_all (is_valid_rule p) p.rules ≡ true
  all_rules = (both (list_all (is_valid_rule p) p.rules) (list_all (is_valid_named p) p.named) halves.1).0

  all_named : list_all (is_valid_named p) p.named ≡ true
  all_named = (both (list_all (is_valid_rule p) p.rules) (list_all (is_valid_named p) p.named) halves.1).1

  pub rule_good : (k : ℕ) (r : Rule) → slice_get p.rules k ≡ Some r → IsGood p r
  rule_good k r e = (checked p r (all_place (is_valid_rule p) p.rules k r all_rules e)).good

  pub named_valid : (k : ℕ) (d : Named) → slice_get p.named k ≡ Some d → is_valid_strategy p (Inside d.parameters d.sort) d.body d.sort ≡ true
  unfolding is_valid_named
  named_valid k d e = (both (has_sort_id p.signature d.sort) (is_valid_strategy p (Inside d.parameters d.sort) d.body d.sort) (all_place (is_valid_named p) p.named k d all_named e)).1

  pub sound_operator : (k : ℕ) (o : Operator) → slice_get p.signature.operators k ≡ Some o → is_sound_operator p.signature o ≡ true
  unfolding is_sound
  sound_operator k o e = all_place (is_sound_operator p.signature) p.signature.operators k o (both (list_all (is_sound_operator p.signature) p.signature.operators) _ (both _ _ sound).1).0 e

  pub truth_fit : truth_fits p.signature p.signature.truth ≡ true
  unfolding is_sound
  truth_fit = (both (truth_fits p.signature p.signature.truth) (has_no_cycle p.signature) (both (int_fits p.signature p.signature.int) _ (both (list_all (is_sound_operator p.signature) p.signature.operators) _ (both _ _ sound).1).1).1).0
