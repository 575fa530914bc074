-- What the test of a table's condition needs: facts on rows as facts on their terms, and the cases of the test.
use Rattle.std.proofs.Common.{◌≡◌, sym, ap, ◌∙◌, subst, ◌-◌, ◌≤◌, ◌<◌, Bool, true, false, Decides, ℕ, List, [], ◌∷◌, length, map, take, drop, get_or, take_all, All, IsTrue, IsFalse, MatchBool, is_gt, arith}
use Rattle.std.specs.List.{AllZip, AllPairs}
use Rattle.std.proofs.lemmas.List.{length-map}
use Rattle.boxcar.specs.Table.{Where}
use Rattle.elan_terms.specs.declared.tree.OpId.{OpId}
use Rattle.elan_terms.specs.declared.tree.SortId.{SortId}
use Rattle.elan_terms.specs.declared.tree.Term.{Term}
use Rattle.elan_terms.specs.declared.tree.Shape.{Shape}
use Rattle.elan_terms.specs.declared.tree.Shapes.{Shapes}
use Rattle.elan_terms.specs.Term.{order, depth, is_ac}
use Rattle.elan_terms.specs.Ascending.{NotAfter, Ascends}
use Rattle.elan_terms.specs.Canonical.{is_headed, IsSettled}
use Rattle.elan_terms.specs.Valid.{HasSort, Takes, IsAllowed}
use Rattle.elan_terms.proofs.Lists.{AllOf, Pairs, all_of, all_from, pairs_of, pairs_from, all_map}
use Rattle.elan_terms.proofs.Sorting.{not_true, not_after_trans}
use Rattle.elan_table.specs.Rows.{terms}
use Rattle.elan_table.specs.Nodes.{MayMake, RowsAscend}

-- ---- facts on rows as facts on their terms

all_to : (P : Term → Type 0) (ws : List (Where Term)) → AllOf (λ w. P w.value) ws → AllOf P (terms ws)
all_to P [] h = tt
all_to P (w ∷ ws) h = (h.0, all_to P ws h.1)

all_back : (P : Term → Type 0) (ws : List (Where Term)) → AllOf P (terms ws) → AllOf (λ w. P w.value) ws
all_back P [] h = tt
all_back P (w ∷ ws) h = (h.0, all_back P ws h.1)

pub all_terms : (P : Term → Type 0) (ws : List (Where Term)) → All (λ w. P w.value) ws → All P (terms ws)
all_terms P ws h = all_from P (terms ws) (all_to P ws (all_of (λ w. P w.value) ws h))

pub all_rows : (P : Term → Type 0) (ws : List (Where Term)) → All P (terms ws) → All (λ w. P w.value) ws
all_rows P ws h = all_from (λ w. P w.value) ws (all_back P ws (all_of P (terms ws) h))

zip_terms : {S : Type 0} (R : Term → S → Type 0) (ws : List (Where Term)) (ss : List S) → AllZip (λ w s. R w.value s) ws ss → AllZip R (terms ws) ss
zip_terms R [] [] h = h
zip_terms R [] (s ∷ ss) h = h
zip_terms R (w ∷ ws) [] h = h
zip_terms R (w ∷ ws) (s ∷ ss) h = (h.0, zip_terms R ws ss h.1)

zip_rows : {S : Type 0} (R : Term → S → Type 0) (ws : List (Where Term)) (ss : List S) → AllZip R (terms ws) ss → AllZip (λ w s. R w.value s) ws ss
zip_rows R [] [] h = h
zip_rows R [] (s ∷ ss) h = h
zip_rows R (w ∷ ws) [] h = h
zip_rows R (w ∷ ws) (s ∷ ss) h = (h.0, zip_rows R ws ss h.1)

By : Where Term → Where Term → Type 0
By a b = NotAfter a.value b.value

pairs_to : (ws : List (Where Term)) → Pairs (λ a b. NotAfter a.value b.value) ws → Pairs NotAfter (terms ws)
pairs_to [] h = tt
pairs_to (w ∷ ws) h = (all_to (NotAfter w.value) ws h.0, pairs_to ws h.1)

pairs_back : (ws : List (Where Term)) → Pairs NotAfter (terms ws) → Pairs (λ a b. NotAfter a.value b.value) ws
pairs_back [] h = tt
pairs_back (w ∷ ws) h = (all_back (NotAfter w.value) ws h.0, pairs_back ws h.1)

ascend_terms : (ws : List (Where Term)) → RowsAscend ws → Ascends (terms ws)
ascend_terms ws h = pairs_from NotAfter (terms ws) (pairs_to ws (pairs_of (λ a b. NotAfter a.value b.value) ws h))

ascend_rows : (ws : List (Where Term)) → Ascends (terms ws) → RowsAscend ws
ascend_rows ws h = pairs_from (λ a b. NotAfter a.value b.value) ws (pairs_back ws (pairs_of NotAfter (terms ws) h))

-- ---- what an operator takes

match_yes : (b : Bool) (P Q : Type 0) → b ≡ true → P → MatchBool b P Q
match_yes true P Q e p = p
match_yes false P Q e p = absurd (not_true (sym e))

match_no : (b : Bool) (P Q : Type 0) → b ≡ false → Q → MatchBool b P Q
match_no true P Q e q = absurd (not_true e)
match_no false P Q e q = q

matched_yes : (b : Bool) (P Q : Type 0) → b ≡ true → MatchBool b P Q → P
matched_yes true P Q e h = h
matched_yes false P Q e h = absurd (not_true (sym e))

matched_no : (b : Bool) (P Q : Type 0) → b ≡ false → MatchBool b P Q → Q
matched_no true P Q e h = absurd (not_true e)
matched_no false P Q e h = h

module _ (shapes : Shapes) (shape : Shape) (ws : List (Where Term)) (r : Bool) where
  pub takes_many : shape.ac ≡ true → 2 ≤ length ws → Decides r (All (λ w. HasSort shapes w.value shape.sort) ws) → Decides r (Takes shapes shape (terms ws))
  takes_many ac two h = (
    λ e. match_yes shape.ac _ _ ac (subst (λ n. 2 ≤ n) (sym (length-map ws (λ t. t.value))) two, all_terms (λ t. HasSort shapes t shape.sort) ws (h.0 e)),
    λ k. h.1 (all_rows (λ t. HasSort shapes t shape.sort) ws (matched_yes shape.ac _ _ ac k).1),
  )

  pub takes_each : shape.ac ≡ false → (sorts : List SortId) → sorts ≡ shape.args → Decides r (AllZip (λ w s. HasSort shapes w.value s) ws sorts) → Decides r (Takes shapes shape (terms ws))
  takes_each ac sorts same h = (
    λ e. match_no shape.ac _ _ ac (zip_terms (HasSort shapes) ws shape.args (subst (AllZip (λ w s. HasSort shapes w.value s) ws) same (h.0 e))),
    λ k. h.1 (subst (AllZip (λ w s. HasSort shapes w.value s) ws) (sym same) (zip_rows (HasSort shapes) ws shape.args (matched_no shape.ac _ _ ac k))),
  )

-- ---- what ascends

-- the rows after the first
abbrev pub others : List (Where Term) → List (Where Term)
others xs = take (length xs - 1) (drop 1 xs)

others-cons : (x : Where Term) (xs : List (Where Term)) → others (x ∷ xs) ≡ xs
others-cons x xs = let le : length xs ≤ length (x ∷ xs) - 1 = omega arith in take_all (length (x ∷ xs) - 1) xs le

first_after : (x y : Where Term) (xs : List (Where Term)) → NotAfter x.value y.value → Pairs (λ a b. NotAfter a.value b.value) (y ∷ xs) → Pairs (λ a b. NotAfter a.value b.value) (x ∷ y ∷ xs)
first_after x y xs le h = ((le, all_map (λ z. NotAfter y.value z.value) (λ z. NotAfter x.value z.value) (λ z. not_after_trans x.value y.value z.value le) xs h.0), h)

pub ascends_more : (xs : List (Where Term)) (x y : Where Term) (r : Bool) → 1 ≤ length xs → 1 ≤ length (others xs) → x ≡ get_or xs 0 x → y ≡ get_or (others xs) 0 y
    → is_gt (order x.value y.value) ≡ false → Decides r (RowsAscend (others xs)) → Decides r (RowsAscend xs)
ascends_more [] x y r one two is is' le h = absurd (omega arith)
ascends_more (a ∷ []) x y r one two is is' le h = absurd (no (subst (λ zs. 1 ≤ length zs) (others-cons a []) two))
  where
    no : 1 ≤ 0 → ⊥
    no l = omega arith
ascends_more (a ∷ b ∷ xs) x y r one two is is' le h =
    let e : y ≡ b = is' ∙ ap (λ zs. get_or zs 0 y) (others-cons a (b ∷ xs)) in (
      λ f. pairs_from (λ a b. NotAfter a.value b.value) (a ∷ b ∷ xs) (first_after a b xs (ap (λ z. is_gt (order z b.value)) (sym (ap (λ w. w.value) is)) ∙ ap (λ z. is_gt (order x.value z)) (sym (ap (λ w. w.value) e)) ∙ le) (pairs_of (λ a b. NotAfter a.value b.value) (b ∷ xs) (subst RowsAscend (others-cons a (b ∷ xs)) (h.0 f)))),
      λ all. h.1 (subst RowsAscend (sym (others-cons a (b ∷ xs))) (pairs_from (λ a b. NotAfter a.value b.value) (b ∷ xs) (pairs_of (λ a b. NotAfter a.value b.value) (a ∷ b ∷ xs) all).1)),
    )

-- where the first comes after the second
pub ascends_not : (xs : List (Where Term)) (x y : Where Term) (r : Bool) → 1 ≤ length xs → 1 ≤ length (others xs) → x ≡ get_or xs 0 x → y ≡ get_or (others xs) 0 y
    → is_gt (order x.value y.value) ≡ true → r ≡ false → Decides r (RowsAscend xs)
ascends_not [] x y r one two is is' gt off = absurd (omega arith)
ascends_not (a ∷ []) x y r one two is is' gt off = absurd (none (subst (λ zs. 1 ≤ length zs) (others-cons a []) two))
  where
    none : 1 ≤ 0 → ⊥
    none l = omega arith
ascends_not (a ∷ b ∷ xs) x y r one two is is' gt off =
    let e : y ≡ b = is' ∙ ap (λ zs. get_or zs 0 y) (others-cons a (b ∷ xs)) in (
      λ f. not_true (sym f ∙ off),
      λ all. not_true (sym gt ∙ ap (λ z. is_gt (order z y.value)) (ap (λ w. w.value) is) ∙ ap (λ z. is_gt (order a.value z)) (ap (λ w. w.value) e) ∙ (pairs_of (λ a b. NotAfter a.value b.value) (a ∷ b ∷ xs) all).0.0),
    )

-- ---- what is settled

module _ (shapes : Shapes) (op : OpId) (ws : List (Where Term)) (r : Bool) where
  pub settles : IsTrue (is_ac shapes op) → All (λ w. IsFalse (is_headed op w.value)) ws → Decides r (RowsAscend ws) → Decides r (IsSettled shapes op (terms ws))
  settles ac none h = (
    λ e _. (all_terms (λ t. IsFalse (is_headed op t)) ws none, ascend_terms ws (h.0 e)),
    λ k. h.1 (ascend_rows ws (k ac).1),
  )

  pub headed : IsTrue (is_ac shapes op) → r ≡ false → Decides r (All (λ w. IsFalse (is_headed op w.value)) ws) → Decides r (IsSettled shapes op (terms ws))
  headed ac off h = (λ e. absurd (not_true (sym e ∙ off)), λ k. h.1 (all_rows (λ t. IsFalse (is_headed op t)) ws (k ac).0))

-- ---- what a table takes

pub may_make : (shapes : Shapes) (op : OpId) (ws : List (Where Term)) (r : Bool) → IsAllowed shapes op (terms ws) → IsSettled shapes op (terms ws) → Decides r (All (λ w. depth w.value < 2000) ws)
    → Decides r (MayMake shapes op (terms ws))
may_make shapes op ws r fits settled h = (
  λ e. record { fits = fits; settled = settled; shallow = all_terms (λ t. depth t < 2000) ws (h.0 e) },
  λ k. h.1 (all_rows (λ t. depth t < 2000) ws k.shallow),
)
