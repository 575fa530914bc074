-- The first of the rows that suits.
use Rattle.std.proofs.Common.{get_or, ◌≡◌, refl, sym, ap, ◌∙◌, ⊎_elim, inl, inr, subst, ◌≤◌, ◌<◌, ℤ, Option, Some, None, List, [], ◌∷◌, length, slice_get, arith}
use Rattle.boxcar.specs.Table.{Where}
use Rattle.elan_terms.specs.declared.tree.OpId.{OpId}
use Rattle.elan_terms.specs.declared.tree.SortId.{SortId}
use Rattle.elan_terms.specs.declared.tree.Term.{Term}
use Rattle.elan_terms.specs.declared.tree.Shapes.{Shapes}
use Rattle.elan_terms.specs.Trees.{int_term, app_term}
use Rattle.elan_terms.specs.Term.{sort_of, shape_sort}
use Rattle.elan_terms.specs.Ascending.{NotAfter, Ascends}
use Rattle.elan_terms.proofs.Lists.{Pairs, In, in_of_contains, contains_of_in, pairs_of, in_all}
use Rattle.elan_table.specs.Rows.{MayStand, terms}
use Rattle.elan_table.proofs.Sorts.{sort_of-int, sort_of-app}
use Rattle.elan_shares.specs.Shares.{FindsLeastTerm}
use Rattle.elan_shares.specs.Singles.{Suits, IsSingle}
use Rattle.elan_shares.proofs.RowLemmas.{not_after-itself, others, others-cons}

-- ---- sorts

pub sort-int : (shapes found : Shapes) (t : Term) (z : ℤ) → found ≡ shapes → t ≡ int_term z → found.int ≡ sort_of shapes t
sort-int shapes found t z is e = ap (λ (g : Shapes). g.int) is ∙ sym (sort_of-int shapes t z e)

pub sort-app : (shapes : Shapes) (t : Term) (f : OpId) (ts : List Term) → t ≡ app_term f ts → shape_sort (slice_get shapes.shapes f.0) ≡ sort_of shapes t
sort-app shapes t f ts e = sym (sort_of-app shapes t f ts e)

pub ruleset sorts = (sort-int, sort-app)

-- ---- the walk

module _ (shapes : Shapes) (op : OpId) (sort : SortId) (floor : Option (Where Term)) where
  -- the rows that are left are some of the rows, hold each that suits, and ascend
  pub record Passed (us left : List Term) : Type 0 where
    pub there : (u : Term) → In u left → In u us
    pub all : (u : Term) → In u us → Suits shapes op sort floor u → In u left
    pub ascend : Pairs NotAfter left

  pub passed_none : (us : List Term) → Ascends us → Passed us us
  passed_none us up = record { there = λ u i. i; all = λ u i s. i; ascend = pairs_of NotAfter us up }

  pub passed_one : (us : List Term) (left : List (Where Term)) (row : Where Term) → Passed us (terms left) → 1 ≤ length left → row ≡ get_or left 0 row
      → (Suits shapes op sort floor row.value → ⊥) → Passed us (terms (others left))
  passed_one us [] row h some is not_so = absurd (omega arith)
  passed_one us (w ∷ left) row h some is not_so = subst (λ ws. Passed us (terms ws)) (sym (others-cons w left)) (record {
    there = λ u i. h.there u (inr i);
    all = λ u i s. ⊎_elim
        (λ e. absurd (not_so (subst (Suits shapes op sort floor) (e ∙ ap (λ (x : Where Term). x.value) (sym is)) s)))
        (λ j. j)
        (h.all u i s);
    ascend = h.ascend.1;
  })

  pub single_found : (us : List Term) (left : List (Where Term)) (row found : Where Term) → Passed us (terms left) → 1 ≤ length left → row ≡ get_or left 0 row
      → MayStand shapes row.value → Suits shapes op sort floor row.value → found ≡ row → FindsLeastTerm (IsSingle shapes op us sort floor) (Some found)
  single_found us [] row found h some is may s e = absurd (omega arith)
  single_found us (w ∷ left) row found h some is may s e =
      let same_row : found ≡ w = e ∙ is in
      let same_term : row.value ≡ w.value = ap (λ (x : Where Term). x.value) is in
      subst (λ (x : Where Term). FindsLeastTerm (IsSingle shapes op us sort floor) (Some x)) (sym same_row) (
        record {
          may = subst (MayStand shapes) same_term may;
          there = contains_of_in us w.value (h.there w.value (inl refl));
          suits = subst (Suits shapes op sort floor) same_term s;
        },
        λ u k. ⊎_elim
            (λ same. subst (NotAfter w.value) (sym same) (not_after-itself w.value))
            (λ j. in_all (NotAfter w.value) (terms left) u h.ascend.0 j)
            (h.all u (in_of_contains us u k.there) k.suits),
      )

  pub single_absent : (us : List Term) (left : List (Where Term)) → Passed us (terms left) → length left < 1 → FindsLeastTerm (IsSingle shapes op us sort floor) None
  single_absent us [] h few = λ u k. h.all u (in_of_contains us u k.there) k.suits
  single_absent us (w ∷ left) h few = absurd (omega arith)
