-- Rows that are put in, cut off or left out.
use Rattle.std.proofs.Common.{◌≡◌, refl, sym, ap, ◌∙◌, subst, ℕ, zero, suc, ◌+◌, ◌≤◌, ◌<◌, Some, List, [], ◌∷◌, length, take, slice_get, take_all, arith}
use Rattle.std.proofs.lemmas.List.{take-map}
use Rattle.std.specs.List.{remove}
use Rattle.boxcar.specs.Table.{Where}
use Rattle.elan_terms.specs.declared.tree.Term.{Term}
use Rattle.elan_terms.specs.Term.{put_in}
use Rattle.elan_terms.specs.Ascending.{NotAfter, Ascends}
use Rattle.elan_terms.proofs.Lists.{pairs_of, pairs_from}
use Rattle.elan_terms.proofs.Sorting.{put_in-pairs}
use Rattle.elan_laws.specs.Parts.{taken, left, times}
use Rattle.elan_table.specs.Rows.{terms}
use Rattle.elan_bags.specs.Bags.{IsLeft}
use Rattle.elan_bags.proofs.TimesLemmas.{one_if, times-cons, put_in-times, some_itself}

-- ---- one more

pub put_times : (u : Term) (us ws : List Term) → ws ≡ put_in u us → (t : Term) → times t ws ≡ times t (u ∷ us)
put_times u us ws e t = ap (times t) e ∙ put_in-times t u us

pub put_ascends : (u : Term) (us ws : List Term) → ws ≡ put_in u us → Ascends us → Ascends ws
put_ascends u us ws e up = pairs_from NotAfter ws (rw e (put_in-pairs u us (pairs_of NotAfter us up)))

pub ruleset puts = (put_times, put_ascends)

-- ---- the first so many

pub terms-length : (ws : List (Where Term)) → length (terms ws) ≡ length ws
terms-length [] = refl
terms-length (w ∷ ws) = ap suc (terms-length ws)

pub no_rows : (ws : List (Where Term)) → length ws < 1 → ws ≡ []
no_rows [] lt = refl
no_rows (w ∷ ws) lt = absurd (omega arith)

pub first_few : (ws : List (Where Term)) (n : ℕ) → terms (take n ws) ≡ take n (terms ws)
first_few ws n = sym (take-map (λ (w : Where Term). w.value) n ws)

pub first_all : (ws : List (Where Term)) (n : ℕ) → length ws ≤ n → terms ws ≡ take n (terms ws)
first_all ws n le = sym (take_all n (terms ws) (omega (arith, terms-length ws)))

pub ruleset firsts = (first_few, first_all)

-- ---- one less

remove-cons : {X : Type 0} (x : X) (xs : List X) (n : ℕ) → remove (x ∷ xs) (suc n) ≡ x ∷ remove xs n
remove-cons x xs n = refl

pub removed : (ws : List (Where Term)) (n : ℕ) → terms (remove ws n) ≡ remove (terms ws) n
removed [] zero = refl
removed [] (suc n) = refl
removed (w ∷ ws) zero = refl
removed (w ∷ ws) (suc n) = ap (λ l. w.value ∷ l) (removed ws n)

pub not_removed : (us : List Term) (n : ℕ) → length us ≤ n → us ≡ remove us n
not_removed [] zero le = refl
not_removed [] (suc n) le = refl
not_removed (u ∷ us) zero le = absurd (omega arith)
not_removed (u ∷ us) (suc n) le = ap (λ l. u ∷ l) (not_removed us n (omega arith))

remove_left : (us : List Term) (n : ℕ) (t : Term) → slice_get us n ≡ Some t → IsLeft us (t ∷ []) (remove us n)
remove_left [] n t e = absurd (no e)
  where
    no : slice_get [] n ≡ Some t → ⊥
    no f = cc
remove_left (u ∷ us) zero t e = record {
  some = left (some_itself us);
  all = λ x. let same_term : u ≡ t = cc in let alike : one_if x u ≡ one_if x t = ap (one_if x) same_term in omega (arith, times-cons x u us, times-cons x t []);
}
remove_left (u ∷ us) (suc n) t e =
    let h : IsLeft us (t ∷ []) (remove us n) = remove_left us n t e in
    record {
      some = taken h.some;
      all = λ x. let later : times x us ≡ times x (t ∷ []) + times x (remove us n) = h.all x in omega (arith, times-cons x u us, times-cons x u (remove us n));
    }

pub removed_left : (us ws : List Term) (n : ℕ) (t : Term) → slice_get us n ≡ Some t → ws ≡ remove us n → IsLeft us (t ∷ []) ws
removed_left us ws n t e f = subst (IsLeft us (t ∷ [])) (sym f) (remove_left us n t e)

pub all_kept : (ws vs : List (Where Term)) (n : ℕ) → length ws ≤ n → terms vs ≡ terms ws → terms vs ≡ remove (terms ws) n
all_kept ws vs n le e = e ∙ not_removed (terms ws) n (omega (arith, terms-length ws))

pub ruleset removes = (removed, all_kept)
