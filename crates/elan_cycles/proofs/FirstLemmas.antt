-- The first edge that lies on a cycle, by the test that computes.
use Rattle.std.proofs.Common.{◌≡◌, refl, sym, ap, subst, ◌∙◌, ℕ, suc, ◌<◌, ◌≤◌, ◌+◌, Bool, true, false, cond, Option, Some, None, List, [], ◌∷◌, length, drop, drop-cons, add-one}
use Rattle.std.specs.Prelude.{slice_index_or}
use Rattle.std.specs.Option.{MatchOption}
use Rattle.std.specs.List.{position_from}
use Rattle.std.proofs.lemmas.Iterator.Adapters.{position_from-zero}
use Rattle.std.proofs.lemmas.List.Quantifiers.{position-Some}
use Rattle.std.proofs.lemmas.Bool.{cond-true, cond-false}
use Rattle.std.proofs.lemmas.List.{drop_all}
use Rattle.std.proofs.lemmas.List.Elements.{Contains-get_or}
use Rattle.std.proofs.lemmas.Option.{get_or_from_slice_get, slice_get-get_or}
use Rattle.elan_cycles.specs.declared.edge.Edge.{Edge}
use Rattle.elan_cycles.specs.Edges.{edge, HasNoCycle, IsFirstOnCycle}
use Rattle.elan_cycles.specs.Search.{comes_back, first_on_cycle}
use Rattle.elan_cycles.proofs.Elements.{Has, here as at_front, there, has_contains, true-is_no-false}
use Rattle.elan_cycles.proofs.SearchLemmas.{leads-way, way-leads}

some_is_not_none : {A : Type 0} {a : A} → Some a ≡ None → ⊥
some_is_not_none e = cc

pub none_passes : {A : Type 0} (test : A → Bool) (n : ℕ) (xs : List A) → position_from test n xs ≡ None → (x : A) → Has x xs
    → test x ≡ false
none_passes test n [] e x h = elim h [ ]
none_passes test n (y ∷ xs) e x h = by_case (test y) refl (λ f g. none_passes test (n + 1) xs f x g) e h
  where
    by_case : (b : Bool) → test y ≡ b → (position_from test (n + 1) xs ≡ None → Has x xs → test x ≡ false)
        → cond b (Some n) (position_from test (n + 1) xs) ≡ None → Has x (y ∷ xs) → test x ≡ false
    by_case true is rest e h = absurd (some_is_not_none e)
    by_case false is rest e (at_front same) = sym (ap test same) ∙ is
    by_case false is rest e (there h) = rest e h

-- the first one from a place on, where the element there does not pass
pub position-next : {A : Type 0} (test : A → Bool) (n : ℕ) (xs : List A) (z : A) → n < length xs
    → test (slice_index_or xs n z) ≡ false → position_from test n (drop n xs) ≡ position_from test (n + 1) (drop (n + 1) xs)
position-next test n xs z within fails =
    ap (position_from test n) (drop-cons xs n z within)
    ∙ cond-false (test (slice_index_or xs n z)) (Some n) (position_from test (n + 1) (drop (suc n) xs)) fails
    ∙ ap (λ k. position_from test (n + 1) (drop k xs)) (sym (add-one n))

-- and where it passes
pub position-here : {A : Type 0} (test : A → Bool) (n : ℕ) (xs : List A) (z : A) → n < length xs
    → test (slice_index_or xs n z) ≡ true → position_from test n (drop n xs) ≡ Some n
position-here test n xs z within passes =
    ap (position_from test n) (drop-cons xs n z within)
    ∙ cond-true (test (slice_index_or xs n z)) (Some n) (position_from test (n + 1) (drop (suc n) xs)) passes

-- behind the last element there is none
pub position-end : {A : Type 0} (test : A → Bool) (n : ℕ) (xs : List A) → length xs ≤ n → position_from test n (drop n xs) ≡ None
position-end test n xs h = ap (position_from test n) (drop_all n xs h)

module _ (edges : List Edge) where
  any_edge : Edge
  any_edge = edge 0 0

  first_is : (n : ℕ) → first_on_cycle edges ≡ Some n → IsFirstOnCycle edges n
  first_is n e =
      let p = position-Some (comes_back edges) edges n any_edge e in
      let at = slice_index_or edges n any_edge in
      record {
        on_cycle = (
          at,
          slice_get-get_or edges n any_edge p.0,
          (Contains-get_or edges n any_edge p.0, leads-way edges at.to at.from p.1),
        );
        none_before = λ k less on. true-is_no-false
            (sym (way-leads edges on.0.to on.0.from on.2.1)
            ∙ subst (λ (x : Edge). comes_back edges x ≡ false) (get_or_from_slice_get edges k on.0 any_edge on.1) (p.2 k less));
      }

  none_is : first_on_cycle edges ≡ None → HasNoCycle edges
  none_is e d on =
      true-is_no-false
      (sym (way-leads edges d.to d.from on.1)
      ∙ none_passes (comes_back edges) 0 edges (sym (position_from-zero (comes_back edges) edges) ∙ e) d (has_contains edges d on.0))

  pub first-law : (found : Option ℕ) → found ≡ first_on_cycle edges → MatchOption found (HasNoCycle edges) (IsFirstOnCycle edges)
  first-law None e = none_is (sym e)
  first-law (Some n) e = first_is n (sym e)

pub ruleset first_rules = (first-law)
