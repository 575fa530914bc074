-- How `Results` and `Rows` pass through what lists are put together by.
use Rattle.std.proofs.Common.{ℕ, Bool, true, false, List, [], ◌∷◌, ◌++◌}
use Rattle.std.specs.List.{flat_map}
use Rattle.elan_terms.specs.declared.tree.Term.{Term}
use Rattle.elan_terms.proofs.Lists.{AllOf}
use Rattle.elan_meaning.specs.declared.item.Item.{Item}
use Rattle.elan_meaning.specs.declared.item.Entry.{Entry}
use Rattle.elan_meaning.specs.declared.item.Entry.TheVariants.{At, Stop}
use Rattle.elan_meaning.specs.declared.item.Item.TheVariants.{Res, Mark}
use Rattle.elan_meaning.specs.Items.{on_results, or_else, head, first_or, before, rows_of, items_of, one_of, row_of, after, chosen}
use Rattle.elan_kinds.specs.Kinds.{Results, Rows}

module _ (P : Term → Type 0) where
  pub results_append : (is js : List Item) → Results P is → Results P js → Results P (is ++ js)
  results_append [] js h k = k
  results_append (Res t m ∷ is) js h k = (h.0, results_append is js h.1 k)
  results_append (Mark c ∷ is) js h k = results_append is js h k

  pub results_all : (is : List Item) → ((t : Term) → P t) → Results P is
  results_all [] f = tt
  results_all (Res t m ∷ is) f = (f t, results_all is f)
  results_all (Mark c ∷ is) f = results_all is f

  pub results_flat : {X : Type 0} (xs : List X) (f : X → List Item) → AllOf (λ x. Results P (f x)) xs → Results P (flat_map f xs)
  results_flat [] f h = tt
  results_flat (x ∷ xs) f h = results_append (f x) (flat_map f xs) h.0 (results_flat xs f h.1)

  pub results_or_else : (is js : List Item) → Results P is → Results P js → Results P (or_else is js)
  results_or_else [] js h k = k
  results_or_else (i ∷ is) js h k = h

  pub results_head : (is : List Item) → Results P is → Results P (head is)
  results_head [] h = h
  results_head (Res t m ∷ is) h = (h.0, tt)
  results_head (Mark c ∷ is) h = tt

  pub results_chosen : (one : Bool) (is : List Item) → Results P is → Results P (chosen one is)
  unfolding chosen
  results_chosen true is h = results_head is h
  results_chosen false is h = h

  pub results_first_or : (is : List Item) (j : Item) → Results P is → Results P (j ∷ []) → Results P (first_or is j ∷ [])
  results_first_or [] j h k = k
  results_first_or (Res t m ∷ is) j h k = (h.0, tt)
  results_first_or (Mark c ∷ is) j h k = tt

  module _ (Q : Term → Type 0) where
    pub results_map : (is : List Item) → Results Q is → ((t : Term) → Q t → P t) → Results P is
    results_map [] h f = tt
    results_map (Res t m ∷ is) h f = (f t h.0, results_map is h.1 f)
    results_map (Mark c ∷ is) h f = results_map is h f

    pub results_then : (is : List Item) (k : Term → ℕ → List Item) → Results Q is → ((t : Term) (m : ℕ) → Q t → Results P (k t m)) → Results P (on_results is k)
    results_then [] k h f = tt
    results_then (Res t m ∷ is) k h f = results_append (k t m) (on_results is k) (f t m h.0) (results_then is k h.1 f)
    results_then (Mark c ∷ is) k h f = results_then is k h f

  module _ (Q : List Term → Type 0) where
    pub results_items : (es : List Entry) (k : List Term → ℕ → List Item) → Rows Q es → ((ts : List Term) (m : ℕ) → Q ts → Results P (k ts m)) → Results P (items_of es k)
    results_items [] k h f = tt
    results_items (At ts m ∷ es) k h f = results_append (k ts m) (items_of es k) (f ts m h.0) (results_items es k h.1 f)
    results_items (Stop c ∷ es) k h f = results_items es k h f

    pub results_one : (e : Entry) (k : List Term → ℕ → Item) → Rows Q (e ∷ []) → ((ts : List Term) (m : ℕ) → Q ts → Results P (k ts m ∷ [])) → Results P (one_of e k ∷ [])
    results_one (At ts m) k h f = f ts m h.0
    results_one (Stop c) k h f = tt

module _ (P : List Term → Type 0) where
  pub rows_append : (is js : List Entry) → Rows P is → Rows P js → Rows P (is ++ js)
  rows_append [] js h k = k
  rows_append (At ts m ∷ is) js h k = (h.0, rows_append is js h.1 k)
  rows_append (Stop c ∷ is) js h k = rows_append is js h k

  pub rows_flat : {X : Type 0} (xs : List X) (f : X → List Entry) → AllOf (λ x. Rows P (f x)) xs → Rows P (flat_map f xs)
  rows_flat [] f h = tt
  rows_flat (x ∷ xs) f h = rows_append (f x) (flat_map f xs) h.0 (rows_flat xs f h.1)

  module _ (Q : Term → Type 0) where
    pub rows_then : (is : List Item) (k : Term → ℕ → List Entry) → Results Q is → ((t : Term) (m : ℕ) → Q t → Rows P (k t m)) → Rows P (rows_of is k)
    rows_then [] k h f = tt
    rows_then (Res t m ∷ is) k h f = rows_append (k t m) (rows_of is k) (f t m h.0) (rows_then is k h.1 f)
    rows_then (Mark c ∷ is) k h f = rows_then is k h f

    pub rows_one : (i : Item) (k : Term → ℕ → Entry) → Results Q (i ∷ []) → ((t : Term) (m : ℕ) → Q t → Rows P (k t m ∷ [])) → Rows P (row_of i k ∷ [])
    rows_one (Res t m) k h f = f t m h.0
    rows_one (Mark c) k h f = tt

  module _ (Q : List Term → Type 0) where
    pub rows_before : (t : Term) (es : List Entry) → Rows Q es → ((ts : List Term) → Q ts → P (t ∷ ts)) → Rows P (before t es)
    rows_before t [] h f = tt
    rows_before t (At ts m ∷ es) h f = (f ts h.0, rows_before t es h.1 f)
    rows_before t (Stop c ∷ es) h f = rows_before t es h f

    pub rows_after : (t : Term) (e : Entry) → Rows Q (e ∷ []) → ((ts : List Term) → Q ts → P (t ∷ ts)) → Rows P (after t e ∷ [])
    rows_after t (At ts m) h f = (f ts h.0, tt)
    rows_after t (Stop c) h f = tt
