-- The matches of a plain pattern are the values that are found, and no others.
use Rattle.std.proofs.Common.{◌≡◌, refl, sym, ap, ◌∙◌, inl, inr, ℕ, true, Bool, false, cond, ◌==◌, Some, None, List, [], ◌∷◌, map, option_and_then}
use Rattle.std.specs.List.{AllZip}
use Rattle.std.specs.declared.cmp.Ordering.TheVariants.{Less, Equal}
use Rattle.std.specs.Cmp.Lexicographic.{slice_cmp}
use Rattle.std.proofs.lemmas.Cmp.{tied_itself, lists_total}
use Rattle.std.proofs.lemmas.Option.{none-some, same_Some, option_and_then_some}
use Rattle.elan_terms.specs.declared.tree.SortId.{SortId}
use Rattle.elan_terms.specs.declared.tree.Term.{Term}
use Rattle.elan_terms.specs.declared.tree.Pattern.{Pattern}
use Rattle.elan_terms.specs.declared.tree.Shapes.{Shapes}
use Rattle.elan_terms.specs.Term.{order, canon}
use Rattle.elan_terms.specs.Match.{occurrences, variables, bound, matches}
use Rattle.elan_terms.specs.Valid.{IsValid}
use Rattle.elan_terms.specs.Canonical.{IsCanonical}
use Rattle.elan_laws.specs.Parts.{IsPart}
use Rattle.elan_laws.specs.Matching.{filled, MayHave, IsMatch}
use Rattle.elan_terms.proofs.Lists.{AllOf, Pairs, In, in_of_contains, contains_of_in, pairs_of}
use Rattle.elan_terms.proofs.OrderLaws.{order_total}
use Rattle.elan_laws.proofs.CanonicalLaws.{canonical-canon}
use Rattle.elan_laws.proofs.MatchLaws.{matches-ascend, matches-exact, part-canonical, zip_weaker, zip_second}
use Rattle.elan_table.specs.Rows.{MayStand}
use Rattle.elan_match.specs.Plain.{is_plain, AreNumbered}
use Rattle.elan_match.specs.Places.{placed}
use Rattle.elan_match.specs.Values.{with_places, values_at}
use Rattle.elan_match.proofs.PlaceLemmas.{Placed, agree_itself, placed-is, filled-placed}
use Rattle.elan_match.proofs.ValueLemmas.{Sorted, Valued, found_are, are_found, stand-agree}
use Rattle.elan_match.proofs.PlainLemmas.{filled-canonical}

-- ---- lists that ascend and hold at most one item

different : {A : Type 0} → Equal ≡ Less → A
different e = absurd (no e)
  where
    no : Equal ≡ Less → ⊥
    no f = cc

-- one list that is there, and no other
one_only : (lists : List (List Term)) (values : List Term) → Pairs (λ a b. slice_cmp order a b ≡ Less) lists
    → In values lists → ((a : List Term) → In a lists → a ≡ values) → lists ≡ values ∷ []
one_only [] values h i only = elim i [ ]
one_only (a ∷ []) values h i only = ap (λ b. b ∷ []) (only a (inl refl))
one_only (a ∷ b ∷ lists) values h i only =
    different (sym (tied_itself (lists_total order_total) values) ∙ ap (λ c. slice_cmp order c values) (sym (only a (inl refl))) ∙ ap (slice_cmp order a) (sym (only b (inr (inl refl)))) ∙ h.0.0)

none_there : (lists : List (List Term)) → ((a : List Term) → In a lists → ⊥) → lists ≡ []
none_there [] never = refl
none_there (a ∷ lists) never = absurd (never a (inl refl))

-- ---- matches

both_hold : (shapes : Shapes) (t : Term) (vs : List (ℕ × SortId)) (us : List Term) → AllZip (Sorted shapes) vs us
    → AllOf (λ u. IsPart shapes u t) us → AllZip (MayHave shapes t) vs us
both_hold shapes t [] [] h k = tt
both_hold shapes t [] (u ∷ us) h k = absurd h
both_hold shapes t (v ∷ vs) [] h k = absurd h
both_hold shapes t (v ∷ vs) (u ∷ us) h k = ((k.0, h.0), both_hold shapes t vs us h.1 k.1)

bound_canonical : (shapes : Shapes) (vs : List (ℕ × SortId)) (us : List Term) (x : ℕ) → AllOf (IsCanonical shapes) us
    → IsCanonical shapes (bound vs us x)
bound_canonical shapes [] us x h = tt
bound_canonical shapes (v ∷ vs) [] x h = tt
bound_canonical shapes (v ∷ vs) (u ∷ us) x h = either (v.0 == x) h.0 (bound_canonical shapes vs us x h.1)
  where
    either : (b : Bool) → IsCanonical shapes u → IsCanonical shapes (bound vs us x)
        → IsCanonical shapes (cond b u (bound vs us x))
    either true here there = here
    either false here there = there

module _ (shapes : Shapes) (p : Pattern) (t : Term) (first : ℕ) (plain : is_plain shapes p ≡ true) (numbered : AreNumbered first (variables p)) (valid : IsValid shapes t) (canonical : IsCanonical shapes t) where
  -- the values that are found are a match
  found-match : (values : List Term) → values_at shapes first [] p t ≡ Some values → IsMatch shapes p t values
  unfolding values_at variables
  found-match values e = option_and_then_some (with_places shapes first [] (occurrences p)) (placed p t) values e
      (λ us is_placed is_found.
      let h : Placed shapes p t us = placed-is shapes p t us is_placed in
      let v : Valued shapes first (variables p) numbered (λ u. IsPart shapes u t) [] (occurrences p) us values
      = found_are shapes first (variables p) numbered (λ u. IsPart shapes u t) [] (occurrences p) us [] values refl refl tt tt h.are_parts is_found in
      record {
        given = both_hold shapes t (variables p) values v.sorted v.have;
        makes
            = ap (canon shapes) (h.is_whole (bound (variables p) values) (stand-agree shapes first (variables p) numbered values v.sorted (occurrences p) us v.stand))
            ∙ canonical-canon shapes t canonical;
      })

  -- a pattern that is filled with a match is the term
  match-whole : (values : List Term) → IsMatch shapes p t values → filled (bound (variables p) values) p ≡ t
  match-whole values m =
      let all : AllOf (IsCanonical shapes) values = zip_second (IsCanonical shapes) (variables p) values
      (zip_weaker (MayHave shapes t) (λ _ u. IsCanonical shapes u) (λ v u k. part-canonical shapes u t canonical k.0) (variables p) values m.given) in
      sym (canonical-canon shapes (filled (bound (variables p) values) p) (filled-canonical shapes (bound (variables p) values) (λ x. bound_canonical shapes (variables p) values x all) p plain))
      ∙ m.makes

  -- a match is found
  match-found : (values : List Term) → IsMatch shapes p t values → values_at shapes first [] p t ≡ Some values
  unfolding values_at variables
  match-found values m =
      ap (option_and_then (with_places shapes first [] (occurrences p))) (ap (placed p) (sym (match-whole values m)) ∙ filled-placed (bound (variables p) values) p)
      ∙ are_found shapes first (variables p) numbered values (zip_weaker (MayHave shapes t) (Sorted shapes) (λ v u k. k.1) (variables p) values m.given)
      [] (occurrences p) (map (λ (v : ℕ × SortId). bound (variables p) values v.0) (occurrences p)) [] values refl refl refl (agree_itself (bound (variables p) values) (occurrences p))

  ascend : Pairs (λ a b. slice_cmp order a b ≡ Less) (matches shapes p t)
  ascend = pairs_of (λ a b. slice_cmp order a b ≡ Less) (matches shapes p t) (matches-ascend shapes p t)

  is_match : (a : List Term) → In a (matches shapes p t) → IsMatch shapes p t a
  is_match a i = (matches-exact shapes p t valid canonical a).0 (contains_of_in (matches shapes p t) a i)

  -- where values are found they are the only match
  pub matches-one : (values : List Term) → values_at shapes first [] p t ≡ Some values
      → matches shapes p t ≡ values ∷ []
  matches-one values e = one_only (matches shapes p t) values ascend
      (in_of_contains (matches shapes p t) values ((matches-exact shapes p t valid canonical values).1 (found-match values e)))
      (λ a i. same_Some a values (sym (match-found a (is_match a i)) ∙ e))

  -- where none are found there is no match
  pub matches-none : values_at shapes first [] p t ≡ None → matches shapes p t ≡ []
  matches-none e = none_there (matches shapes p t) (λ a i. none-some a (sym e ∙ match-found a (is_match a i)))

-- ---- what the walk answers on the whole

pub answers-one : (shapes : Shapes) (p : Pattern) (t : Term) (first : ℕ) (values : List Term) → is_plain shapes p ≡ true
    → AreNumbered first (variables p) → MayStand shapes t → values_at shapes first [] p t ≡ Some values
    → matches shapes p t ≡ values ∷ []
answers-one shapes p t first values plain numbered row e
    = matches-one shapes p t first plain numbered row.valid row.canonical values e

pub answers-none : (shapes : Shapes) (p : Pattern) (t : Term) (first : ℕ) → is_plain shapes p ≡ true
    → AreNumbered first (variables p) → MayStand shapes t → values_at shapes first [] p t ≡ None
    → matches shapes p t ≡ []
answers-none shapes p t first plain numbered row e
    = matches-none shapes p t first plain numbered row.valid row.canonical e

pub ruleset answers = (answers-one, answers-none)
