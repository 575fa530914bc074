-- How `Goes` passes through what lists are put together by.
use Rattle.std.proofs.Common.{◌≡◌, ℕ, ◌+◌, ◌≤◌, Bool, true, false, List, [], ◌∷◌, ◌++◌, arith}
use Rattle.std.specs.Prelude.{if◌then◌else◌}
use Rattle.std.specs.List.{flat_map}
use Rattle.elan_terms.specs.declared.tree.Term.{Term}
use Rattle.elan_meaning.specs.declared.item.Item.{Item}
use Rattle.elan_meaning.specs.declared.item.Entry.{Entry}
use Rattle.elan_meaning.specs.Items.{on_results, or_else, head, first_or, before, rows_of, items_of, one_of, row_of, after}
use Rattle.elan_meaning.specs.Laws.{Goes, none, result, deep, out, on, GoesRows, no_row, row, deep_row, out_row, on_row}

module _ {k : ℕ} where
  pub goes-more : {n n' : ℕ} {is js : List Item} → n ≤ n' → Goes k n is js → Goes k n' is js
  goes-more le none = none
  goes-more le (result below e g) = result (omega arith) e (goes-more le g)
  goes-more le (deep g) = deep (goes-more le g)
  goes-more le (out g) = out (goes-more le g)
  goes-more le (on some) = on some

  pub rows-more : {n n' : ℕ} {is js : List Entry} → n ≤ n' → GoesRows k n is js → GoesRows k n' is js
  rows-more le no_row = no_row
  rows-more le (row below e g) = row (omega arith) e (rows-more le g)
  rows-more le (deep_row g) = deep_row (rows-more le g)
  rows-more le (out_row g) = out_row (rows-more le g)
  rows-more le (on_row some) = on_row some

  module _ {n : ℕ} where
    pub goes-append : {is is' js js' : List Item} → Goes k n is is' → Goes k n js js' → Goes k n (is ++ js) (is' ++ js')
    goes-append none h = h
    goes-append (result below e g) h = result below e (goes-append g h)
    goes-append (deep g) h = deep (goes-append g h)
    goes-append (out g) h = out (goes-append g h)
    goes-append (on some) h = on some

    pub rows-append : {is is' js js' : List Entry} → GoesRows k n is is' → GoesRows k n js js' → GoesRows k n (is ++ js) (is' ++ js')
    rows-append no_row h = h
    rows-append (row below e g) h = row below e (rows-append g h)
    rows-append (deep_row g) h = deep_row (rows-append g h)
    rows-append (out_row g) h = out_row (rows-append g h)
    rows-append (on_row some) h = on_row some

    -- ---- what follows each result or row

    pub goes-results : {is js : List Item} {f g : Term → ℕ → List Item} → Goes k n is js
        → ((t : Term) (m m' : ℕ) → m ≤ n → m' ≡ m + k → Goes k m (f t m) (g t m')) → Goes k n (on_results is f) (on_results js g)
    goes-results none h = none
    goes-results (result {t = t} {m = m} {m' = m'} below e r) h = goes-append (goes-more below (h t m m' below e)) (goes-results r h)
    goes-results (deep r) h = deep (goes-results r h)
    goes-results (out r) h = out (goes-results r h)
    goes-results (on some) h = on some

    pub goes-rows_of : {is js : List Item} {f g : Term → ℕ → List Entry} → Goes k n is js
        → ((t : Term) (m m' : ℕ) → m ≤ n → m' ≡ m + k → GoesRows k m (f t m) (g t m')) → GoesRows k n (rows_of is f) (rows_of js g)
    goes-rows_of none h = no_row
    goes-rows_of (result {t = t} {m = m} {m' = m'} below e r) h = rows-append (rows-more below (h t m m' below e)) (goes-rows_of r h)
    goes-rows_of (deep r) h = deep_row (goes-rows_of r h)
    goes-rows_of (out r) h = out_row (goes-rows_of r h)
    goes-rows_of (on some) h = on_row some

    pub goes-items_of : {is js : List Entry} {f g : List Term → ℕ → List Item} → GoesRows k n is js
        → ((ts : List Term) (m m' : ℕ) → m ≤ n → m' ≡ m + k → Goes k m (f ts m) (g ts m')) → Goes k n (items_of is f) (items_of js g)
    goes-items_of no_row h = none
    goes-items_of (row {ts = ts} {m = m} {m' = m'} below e r) h = goes-append (goes-more below (h ts m m' below e)) (goes-items_of r h)
    goes-items_of (deep_row r) h = deep (goes-items_of r h)
    goes-items_of (out_row r) h = out (goes-items_of r h)
    goes-items_of (on_row some) h = on some

    pub rows-before : {is js : List Entry} (t : Term) → GoesRows k n is js → GoesRows k n (before t is) (before t js)
    rows-before t no_row = no_row
    rows-before t (row below e r) = row below e (rows-before t r)
    rows-before t (deep_row r) = deep_row (rows-before t r)
    rows-before t (out_row r) = out_row (rows-before t r)
    rows-before t (on_row some) = on_row some

    -- ---- choices

    pub goes-or_else : {is is' js js' : List Item} → Goes k n is is' → Goes k n js js' → Goes k n (or_else is js) (or_else is' js')
    goes-or_else none h = h
    goes-or_else (result below e g) h = result below e g
    goes-or_else (deep g) h = deep g
    goes-or_else (out g) h = out g
    goes-or_else (on some) h = on some

    pub goes-head : {is js : List Item} → Goes k n is js → Goes k n (head is) (head js)
    goes-head none = none
    goes-head (result below e g) = result below e none
    goes-head (deep g) = deep none
    goes-head (out g) = out none
    goes-head (on some) = on some

    pub goes-first_or : {is js : List Item} {i j : Item} → Goes k n is js → Goes k n (i ∷ []) (j ∷ []) → Goes k n (first_or is i ∷ []) (first_or js j ∷ [])
    goes-first_or none h = h
    goes-first_or (result below e g) h = result below e none
    goes-first_or (deep g) h = deep none
    goes-first_or (out g) h = out none
    goes-first_or (on some) h = on some

    pub goes-if : {is is' js js' : List Item} (b : Bool) → Goes k n is is' → Goes k n js js' → Goes k n (if b then is else js) (if b then is' else js')
    goes-if true g h = g
    goes-if false g h = h

    pub goes-if_one : {i i' j j' : Item} (b : Bool) → Goes k n (i ∷ []) (i' ∷ []) → Goes k n (j ∷ []) (j' ∷ []) → Goes k n ((if b then i else j) ∷ []) ((if b then i' else j') ∷ [])
    goes-if_one true g h = g
    goes-if_one false g h = h

    pub rows-if : {is is' js js' : List Entry} (b : Bool) → GoesRows k n is is' → GoesRows k n js js' → GoesRows k n (if b then is else js) (if b then is' else js')
    rows-if true g h = g
    rows-if false g h = h

    -- ---- each of a list in turn

    pub goes-flat_map : {X : Type 0} {f g : X → List Item} (xs : List X) → ((x : X) → Goes k n (f x) (g x)) → Goes k n (flat_map f xs) (flat_map g xs)
    goes-flat_map [] h = none
    goes-flat_map (x ∷ xs) h = goes-append (h x) (goes-flat_map xs h)

    pub rows-flat_map : {X : Type 0} {f g : X → List Entry} (xs : List X) → ((x : X) → GoesRows k n (f x) (g x)) → GoesRows k n (flat_map f xs) (flat_map g xs)
    rows-flat_map [] h = no_row
    rows-flat_map (x ∷ xs) h = rows-append (h x) (rows-flat_map xs h)

    -- ---- one item and one row

    pub goes-one_of : {e e' : Entry} {f g : List Term → ℕ → Item} → GoesRows k n (e ∷ []) (e' ∷ [])
        → ((ts : List Term) (m m' : ℕ) → m ≤ n → m' ≡ m + k → Goes k m (f ts m ∷ []) (g ts m' ∷ [])) → Goes k n (one_of e f ∷ []) (one_of e' g ∷ [])
    goes-one_of (row {ts = ts} {m = m} {m' = m'} below e r) h = goes-more below (h ts m m' below e)
    goes-one_of (deep_row r) h = deep none
    goes-one_of (out_row r) h = out none
    goes-one_of (on_row some) h = on some

    pub goes-row_of : {i j : Item} {f g : Term → ℕ → Entry} → Goes k n (i ∷ []) (j ∷ [])
        → ((t : Term) (m m' : ℕ) → m ≤ n → m' ≡ m + k → GoesRows k m (f t m ∷ []) (g t m' ∷ [])) → GoesRows k n (row_of i f ∷ []) (row_of j g ∷ [])
    goes-row_of (result {t = t} {m = m} {m' = m'} below e r) h = rows-more below (h t m m' below e)
    goes-row_of (deep r) h = deep_row no_row
    goes-row_of (out r) h = out_row no_row
    goes-row_of (on some) h = on_row some

    pub rows-after : {e e' : Entry} (t : Term) → GoesRows k n (e ∷ []) (e' ∷ []) → GoesRows k n (after t e ∷ []) (after t e' ∷ [])
    rows-after t (row below e r) = row below e no_row
    rows-after t (deep_row r) = deep_row no_row
    rows-after t (out_row r) = out_row no_row
    rows-after t (on_row some) = on_row some
