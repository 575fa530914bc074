-- The matches are the lists of valid canonical values of the variables' sorts that make the pattern the term.
use Rattle.std.proofs.Common.{◌≡◌, refl, sym, ap, ◌∙◌, ◌↔◌, subst, ℕ, suc, ◌+◌, pos, Bool, true, false, cond, ◌==◌, eq-eqb, List, [], ◌∷◌, length, Contains, All, arith}
use Rattle.std.specs.List.{AllZip}
use Rattle.elan_terms.specs.declared.tree.SortId.{SortId}
use Rattle.elan_terms.specs.declared.tree.Term.{Term}
use Rattle.elan_terms.specs.declared.tree.Pattern.{Pattern}
use Rattle.elan_terms.specs.declared.tree.Shapes.{Shapes}
use Rattle.elan_terms.specs.Term.{canon}
use Rattle.elan_terms.specs.Match.{occurrences, variables, bound, parts, instance, matches}
use Rattle.elan_terms.specs.Valid.{HasSort}
use Rattle.elan_terms.specs.Canonical.{IsCanonical}
use Rattle.elan_terms.proofs.Lists.{AllOf, Pairs, all_of, all_from, all_map}
use Rattle.elan_laws.specs.Parts.{IsPart}
use Rattle.elan_laws.specs.Matching.{filled, MayHave, IsMatch}
use Rattle.elan_laws.proofs.CanonicalLaws.{canon-of_int, canonical-canon}
use Rattle.elan_laws.proofs.PartLaws.{parts-exact}
use Rattle.elan_laws.proofs.SortLaws.{part-valid}
use Rattle.elan_laws.proofs.MatchLaws.{matches-exact, part-canonical, instance-canon, zip_weaker, zip_second}
use Rattle.elan_arms.specs.Values.{IsProper, AreProper, MayMean, Makes}
use Rattle.elan_arms.proofs.Agreement.{Differ, variables-all, all-variables, variables-differ}
use Rattle.elan_arms.proofs.Parts.{values-parts}

-- ---- the value of a variable in a list of values

either_holds : (P : Term → Type 0) (b : Bool) (t u : Term) → P t → P u → P (cond b t u)
either_holds P true t u h k = h
either_holds P false t u h k = k

-- each variable has the value beside it
abbrev pub Stands : (ℕ → Term) → ℕ × SortId → Term → Type 0
Stands value v u = value v.0 ≡ u

zip_from : (value other : ℕ → Term) (vs : List (ℕ × SortId)) (us : List Term) → AllOf (λ v. other v.0 ≡ value v.0) vs → AllZip (Stands value) vs us → AllZip (Stands other) vs us
zip_from value other [] [] h k = tt
zip_from value other [] (u ∷ us) h k = absurd k
zip_from value other (v ∷ vs) [] h k = absurd k
zip_from value other (v ∷ vs) (u ∷ us) h k = (h.0 ∙ k.0, zip_from value other vs us h.1 k.1)

pub bound-stands : (R : ℕ × SortId → Term → Type 0) (vs : List (ℕ × SortId)) (us : List Term) → Pairs Differ vs → AllZip R vs us → AllZip (Stands (bound vs us)) vs us
bound-stands R [] [] d h = tt
bound-stands R [] (u ∷ us) d h = absurd h
bound-stands R (v ∷ vs) [] d h = absurd h
bound-stands R (v ∷ vs) (u ∷ us) d h = (
  ap (λ b. cond b u (bound vs us v.0)) (eq-eqb v.0 v.0 refl),
  zip_from (bound vs us) (bound (v ∷ vs) (u ∷ us)) vs us (all_map (Differ v) (λ w. bound (v ∷ vs) (u ∷ us) w.0 ≡ bound vs us w.0) (λ w e. ap (λ b. cond b u (bound vs us w.0)) e) vs d.0) (bound-stands R vs us d.1 h.1),
)

-- what holds of the values holds of the variables' values
pub zip_all : (P : Term → Type 0) (value : ℕ → Term) (vs : List (ℕ × SortId)) (us : List Term) → AllZip (Stands value) vs us → AllZip (λ _ u. P u) vs us → AllOf (λ v. P (value v.0)) vs
zip_all P value [] [] h k = tt
zip_all P value [] (u ∷ us) h k = absurd h
zip_all P value (v ∷ vs) [] h k = absurd h
zip_all P value (v ∷ vs) (u ∷ us) h k = (subst P (sym h.0) k.0, zip_all P value vs us h.1 k.1)

-- and back
pub all_zip : (P : ℕ × SortId → Term → Type 0) (value : ℕ → Term) (vs : List (ℕ × SortId)) (us : List Term) → AllZip (Stands value) vs us → AllOf (λ v. P v (value v.0)) vs → AllZip P vs us
all_zip P value [] [] h k = tt
all_zip P value [] (u ∷ us) h k = absurd h
all_zip P value (v ∷ vs) [] h k = absurd h
all_zip P value (v ∷ vs) (u ∷ us) h k = (subst (P v) h.0 k.0, all_zip P value vs us h.1 k.1)

zip_both : (shapes : Shapes) (t : Term) (vs : List (ℕ × SortId)) (us : List Term) → AllZip (λ _ u. IsPart shapes u t) vs us → AllZip (MayMean shapes) vs us → AllZip (MayHave shapes t) vs us
zip_both shapes t [] [] h k = tt
zip_both shapes t [] (u ∷ us) h k = absurd h
zip_both shapes t (v ∷ vs) [] h k = absurd h
zip_both shapes t (v ∷ vs) (u ∷ us) h k = ((h.0, k.0.sorted), zip_both shapes t vs us h.1 k.1)

bound_canonical : (shapes : Shapes) (vs : List (ℕ × SortId)) (us : List Term) (x : ℕ) → AllOf (IsCanonical shapes) us → canon shapes (bound vs us x) ≡ bound vs us x
bound_canonical shapes [] us x h = canon-of_int shapes (pos 0)
bound_canonical shapes (v ∷ vs) [] x h = canon-of_int shapes (pos 0)
bound_canonical shapes (v ∷ vs) (u ∷ us) x h
    = either_holds (λ t. canon shapes t ≡ t) (v.0 == x) u (bound vs us x) (canonical-canon shapes u h.0) (bound_canonical shapes vs us x h.1)

module _ (shapes : Shapes) (p : Pattern) (t : Term) (proper : IsProper shapes t) (values : List Term) where
  makes_both : AllOf (IsCanonical shapes) values → instance shapes (bound (variables p) values) p ≡ canon shapes (filled (bound (variables p) values) p)
  makes_both h = instance-canon shapes (bound (variables p) values) (λ x. bound_canonical shapes (variables p) values x h) p

  match-makes : IsMatch shapes p t values → Makes shapes p t values
  match-makes m =
      let given : AllZip (MayMean shapes) (variables p) values = zip_weaker (MayHave shapes t) (MayMean shapes)
      (λ v u k. record { proper = record { valid = part-valid shapes u t proper.valid k.0; canonical = part-canonical shapes u t proper.canonical k.0 }; sorted = k.1 }) (variables p) values m.given in
      record { given = given; is = makes_both (zip_second (IsCanonical shapes) (variables p) values (zip_weaker (MayMean shapes) (λ _ u. IsCanonical shapes u) (λ v u k. k.proper.canonical) (variables p) values given)) ∙ m.makes }

  makes-match : Makes shapes p t values → IsMatch shapes p t values
  makes-match m =
      let value : ℕ → Term = bound (variables p) values in
      let stands : AllZip (Stands value) (variables p) values = bound-stands (MayMean shapes) (variables p) values (variables-differ p) m.given in
      let proper_values : AllOf (λ v. IsProper shapes (value v.0)) (variables p)
      = zip_all (IsProper shapes) value (variables p) values stands (zip_weaker (MayMean shapes) (λ _ u. IsProper shapes u) (λ v u k. k.proper) (variables p) values m.given) in
      let inside : AllOf (λ v. IsPart shapes (value v.0) t) (variables p)
      = variables-all (λ v. IsPart shapes (value v.0) t) p (values-parts shapes value p t proper (all-variables (λ x. IsProper shapes (value x)) p proper_values) m.is) in
      record {
        given = zip_both shapes t (variables p) values (all_zip (λ _ u. IsPart shapes u t) value (variables p) values stands inside) m.given;
        makes = sym (makes_both (zip_second (IsCanonical shapes) (variables p) values (zip_weaker (MayMean shapes) (λ _ u. IsCanonical shapes u) (λ v u k. k.proper.canonical) (variables p) values m.given))) ∙ m.is;
      }

  pub matches-made : Contains (matches shapes p t) values ↔ Makes shapes p t values
  matches-made = (
    λ c. match-makes ((matches-exact shapes p t proper.valid proper.canonical values).0 c),
    λ m. (matches-exact shapes p t proper.valid proper.canonical values).1 (makes-match m),
  )

pub values-contained : (shapes : Shapes) (value : ℕ → Term) (p : Pattern) (t : Term) → IsProper shapes t → AreProper shapes value p → instance shapes value p ≡ t
    → All (λ v. Contains (parts shapes t) (value v.0)) (occurrences p)
values-contained shapes value p t proper h e = all_from (λ v. Contains (parts shapes t) (value v.0)) (occurrences p)
    (all_map (λ v. IsPart shapes (value v.0) t) (λ v. Contains (parts shapes t) (value v.0)) (λ v i. (parts-exact shapes t (value v.0) proper.valid).1 i) (occurrences p)
    (values-parts shapes value p t proper (all_of (λ v. IsProper shapes (value v.0)) (occurrences p) h) e))
