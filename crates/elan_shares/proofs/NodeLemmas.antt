-- Nodes of the operator over some of the terms.
use Rattle.std.proofs.Common.{get_or, ◌≡◌, refl, sym, ap, ◌∙◌, subst, ℕ, ◌+◌, ◌≤◌, ◌<◌, true, false, Option, Some, None, List, [], ◌∷◌, ◌++◌, append_assoc, append-nil, map, length, slice_get, is_gt, arith}
use Rattle.std.specs.Ordering.{ordering_then}
use Rattle.std.proofs.lemmas.Cmp.{nat_cmp_total, tied_itself}
use Rattle.boxcar.specs.Table.{Where}
use Rattle.elan_terms.specs.declared.tree.OpId.{OpId}
use Rattle.elan_terms.specs.declared.tree.SortId.{SortId}
use Rattle.elan_terms.specs.declared.tree.Term.{Term}
use Rattle.elan_terms.specs.declared.tree.Shapes.{Shapes}
use Rattle.elan_terms.specs.Trees.{app_term}
use Rattle.elan_terms.specs.Term.{order, depth, greatest, is_ac, shape_sort}
use Rattle.elan_terms.specs.Ascending.{NotAfter, Ascends}
use Rattle.elan_terms.specs.Canonical.{is_headed}
use Rattle.elan_terms.specs.Valid.{HasSort}
use Rattle.elan_terms.proofs.Lists.{AllOf, all_of, all_from, all_map, pairs_from}
use Rattle.elan_terms.proofs.NodeLemmas.{two_arguments}
use Rattle.elan_terms.proofs.OrderLaws.{order-apps}
use Rattle.elan_terms.proofs.TermLemmas.{depth-app}
use Rattle.elan_laws.specs.Parts.{SomeOf, none, taken, left}
use Rattle.elan_laws.proofs.CanonicalLaws.{TakesAlike, canonical_app, valid_app, ac_takes, takes_ac}
use Rattle.elan_table.specs.Rows.{MayStand, terms}
use Rattle.elan_table.specs.Nodes.{MayMake}
use Rattle.elan_bags.proofs.TimesLemmas.{some_all, some_ascends}
use Rattle.elan_shares.specs.declared.share.Places.{Places}
use Rattle.elan_shares.specs.Shares.{After, FindsLeastTerm}
use Rattle.elan_shares.specs.Nodes.{MayStandUnder, Kept, ended, kept, dropped, args_order, FindsFirst, IsTaken, IsOver, IsNode}
use Rattle.elan_shares.proofs.RowLemmas.{not_after-itself, others, others-cons}

-- ---- terms that are kept

terms-push : (out : List (Where Term)) (w : Where Term) → terms (out ++ w ∷ []) ≡ terms out ++ w.value ∷ []
terms-push [] w = refl
terms-push (v ∷ out) w = ap (λ l. v.value ∷ l) (terms-push out w)

module _ (Fact : Term → Type 0) where
  pub kept_some : {ws us : List Term} → Kept Fact ws us → SomeOf ws us
  kept_some ended = none
  kept_some (kept h k) = taken (kept_some k)
  kept_some (dropped h k) = left (kept_some k)

  pub kept_all : {ws us : List Term} → Kept Fact ws us → AllOf Fact ws
  kept_all ended = tt
  kept_all (kept h k) = (h, kept_all k)
  kept_all (dropped h k) = kept_all k

  pub kept_ascends : (ws us : List Term) → Kept Fact ws us → Ascends us → Ascends ws
  kept_ascends ws us k up = some_ascends ws us (kept_some k) up

  -- some of the terms of which the fact holds are some of those that are kept
  pub kept_each : {ws us : List Term} → Kept Fact ws us → (xs : List Term) → SomeOf xs us → AllOf Fact xs → SomeOf xs ws
  kept_each ended xs s h = s
  kept_each (kept f k) [] (left s) h = left (kept_each k [] s h)
  kept_each (kept f k) (x ∷ xs) (taken s) h = taken (kept_each k xs s h.1)
  kept_each (kept f k) (x ∷ xs) (left s) h = left (kept_each k (x ∷ xs) s h)
  kept_each (dropped f k) [] (left s) h = kept_each k [] s h
  kept_each (dropped f k) (x ∷ xs) (taken s) h = absurd (f h.0)
  kept_each (dropped f k) (x ∷ xs) (left s) h = kept_each k (x ∷ xs) s h

  -- what is kept of the terms that are left goes on what is there
  abbrev pub KeepsOn : List Term → List Term → List Term → Type 0
  KeepsOn out rest us = (ws : List Term) → Kept Fact ws rest → Kept Fact (out ++ ws) us

  pub keeps_kept : (out us : List Term) (rest : List (Where Term)) (row : Where Term) → KeepsOn out (terms rest) us → 1 ≤ length rest → row ≡ get_or rest 0 row → Fact row.value
      → KeepsOn (out ++ row.value ∷ []) (terms (others rest)) us
  keeps_kept out us [] row h some is f = absurd (omega arith)
  keeps_kept out us (w ∷ rest) row h some is f = λ ws k.
      let same_term : row.value ≡ w.value = ap (λ (x : Where Term). x.value) is in
      subst (λ l. Kept Fact l us) (ap (λ t. out ++ t ∷ ws) (sym same_term) ∙ sym (append_assoc out (row.value ∷ []) ws))
      (h (w.value ∷ ws) (kept (subst Fact same_term f) (subst (λ l. Kept Fact ws (terms l)) (others-cons w rest) k)))

  pub keeps_pushed : (out new : List (Where Term)) (us : List Term) (rest : List (Where Term)) (row again : Where Term) → KeepsOn (terms out) (terms rest) us → 1 ≤ length rest → row ≡ get_or rest 0 row
      → Fact row.value → again ≡ row → new ≡ out ++ again ∷ [] → KeepsOn (terms new) (terms (others rest)) us
  keeps_pushed out new us rest row again h some is f same e =
      subst (λ l. KeepsOn l (terms (others rest)) us) (sym (ap terms e ∙ terms-push out again ∙ ap (λ (x : Where Term). terms out ++ x.value ∷ []) same))
      (keeps_kept (terms out) us rest row h some is f)

  pub keeps_dropped : (out us : List Term) (rest : List (Where Term)) (row : Where Term) → KeepsOn out (terms rest) us → 1 ≤ length rest → row ≡ get_or rest 0 row → (Fact row.value → ⊥)
      → KeepsOn out (terms (others rest)) us
  keeps_dropped out us [] row h some is f = absurd (omega arith)
  keeps_dropped out us (w ∷ rest) row h some is f = λ ws k.
      let same_term : row.value ≡ w.value = ap (λ (x : Where Term). x.value) is in
      h ws (dropped (λ g. f (subst Fact (sym same_term) g)) (subst (λ l. Kept Fact ws (terms l)) (others-cons w rest) k))

  pub keeps_all : (out us : List Term) (rest : List (Where Term)) → KeepsOn out (terms rest) us → length rest < 1 → Kept Fact out us
  keeps_all out us [] h few = subst (λ l. Kept Fact l us) (append-nil out) (h [] ended)
  keeps_all out us (w ∷ rest) h few = absurd (omega arith)

-- ---- arguments

pub some_trans : {xs ws us : List Term} → SomeOf xs ws → SomeOf ws us → SomeOf xs us
some_trans s none = s
some_trans (taken s) (taken r) = taken (some_trans s r)
some_trans (left s) (taken r) = left (some_trans s r)
some_trans s (left r) = left (some_trans s r)

below_greatest : (n : ℕ) (ts : List Term) → greatest (map depth ts) < n → AllOf (λ t. depth t < n) ts
below_greatest n [] lt = tt
below_greatest n (t ∷ ts) lt = (omega arith, below_greatest n ts (omega arith))

module _ (shapes : Shapes) (op : OpId) where
  -- a node that may stand in the table may be made of its arguments
  pub stands_made : (ts : List Term) → MayStand shapes (app_term op ts) → MayMake shapes op ts
  stands_made ts may =
      let deep : depth (app_term op ts) ≡ 1 + greatest (map depth ts) = depth-app (app_term op ts) op ts refl in
      let low : depth (app_term op ts) ≤ 2000 = may.low in
      record {
        fits = (valid_app shapes op ts may.valid).0;
        settled = (canonical_app shapes op ts may.canonical).0;
        shallow = all_from (λ t. depth t < 2000) ts (below_greatest 2000 ts (omega arith));
      }

  module _ (ac : is_ac shapes op ≡ true) where
    one_stands : (s : SortId) (t : Term) → shape_sort (slice_get shapes.shapes op.0) ≡ Some s → HasSort shapes t s → is_headed op t ≡ false → depth t < 2000 → MayStandUnder shapes op t
    one_stands s t own sorted other low = record {
      fits = takes_ac shapes op (t ∷ t ∷ []) s ac own (omega arith) (sorted, (sorted, tt));
      settled = λ _. (all_from (λ u. is_headed op u ≡ false) (t ∷ t ∷ []) (other, (other, tt)), pairs_from NotAfter (t ∷ t ∷ []) ((not_after-itself t, tt), (tt, tt)));
      shallow = all_from (λ u. depth u < 2000) (t ∷ t ∷ []) (low, (low, tt));
    }

    each_stands : (s : SortId) (ts : List Term) → shape_sort (slice_get shapes.shapes op.0) ≡ Some s → AllOf (λ t. HasSort shapes t s) ts → AllOf (λ t. is_headed op t ≡ false) ts → AllOf (λ t. depth t < 2000) ts
        → AllOf (MayStandUnder shapes op) ts
    each_stands s [] own h k l = tt
    each_stands s (t ∷ ts) own h k l = (one_stands s t own h.0 k.0 l.0, each_stands s ts own h.1 k.1 l.1)

    -- the arguments of a node may stand under the operator
    pub args_stand : (ts : List Term) → MayMake shapes op ts → AllOf (MayStandUnder shapes op) ts
    args_stand ts may =
        let own : TakesAlike shapes (slice_get shapes.shapes op.0) ts = ac_takes shapes op ts ac may.fits in
        each_stands own.sort ts own.own own.alike (all_of (λ t. is_headed op t ≡ false) ts (may.settled ac).0) (all_of (λ t. depth t < 2000) ts may.shallow)

    -- of one term
    its_sort : (t : Term) (s : SortId) → shape_sort (slice_get shapes.shapes op.0) ≡ Some s → MayStandUnder shapes op t → HasSort shapes t s
    its_sort t s own may =
        let its : TakesAlike shapes (slice_get shapes.shapes op.0) (t ∷ t ∷ []) = ac_takes shapes op (t ∷ t ∷ []) ac may.fits in
        its.alike.0 ∙ sym its.own ∙ own

    its_other : (t : Term) → MayStandUnder shapes op t → is_headed op t ≡ false
    its_other t may = (all_of (λ u. is_headed op u ≡ false) (t ∷ t ∷ []) (may.settled ac).0).0

    its_depth : (t : Term) → MayStandUnder shapes op t → depth t < 2000
    its_depth t may = (all_of (λ u. depth u < 2000) (t ∷ t ∷ []) may.shallow).0

    -- at least two terms that may stand under the operator are arguments of a node, where they ascend
    pub args_made : (ts : List Term) → 1 < length ts → Ascends ts → AllOf (MayStandUnder shapes op) ts → MayMake shapes op ts
    args_made [] two up h = absurd (omega arith)
    args_made (t ∷ ts) two up h =
        let own : TakesAlike shapes (slice_get shapes.shapes op.0) (t ∷ t ∷ []) = ac_takes shapes op (t ∷ t ∷ []) ac h.0.fits in
        record {
          fits = takes_ac shapes op (t ∷ ts) own.sort ac own.own (omega arith) (all_map (MayStandUnder shapes op) (λ u. HasSort shapes u own.sort) (λ u k. its_sort u own.sort own.own k) (t ∷ ts) h);
          settled = λ _. (all_from (λ u. is_headed op u ≡ false) (t ∷ ts) (all_map (MayStandUnder shapes op) (λ u. is_headed op u ≡ false) its_other (t ∷ ts) h), up);
          shallow = all_from (λ u. depth u < 2000) (t ∷ ts) (all_map (MayStandUnder shapes op) (λ u. depth u < 2000) its_depth (t ∷ ts) h);
        }

    -- ---- the least node

    module _ (places : Places) (count : ℕ) (able us : List Term) (floor : Option (Where Term)) (k : Kept (MayStandUnder shapes op) able us) where
      -- the arguments of a node are some of the terms that may be arguments
      node_taken : (u : Term) (n : IsNode shapes op places count us floor u) → IsTaken places count able (IsOver op floor) n.args
      node_taken u n =
          let may : MayStand shapes (app_term op n.args) = subst (MayStand shapes) n.whole n.may in
          let two : 2 ≤ length n.args = two_arguments shapes op n.args ac may.valid in
          record {
            some = kept_each (MayStandUnder shapes op) k n.args n.some (args_stand n.args (stands_made n.args may));
            fits = n.fits;
            fact = (omega arith, subst (After floor) n.whole n.after);
          }

      pub node_none : FindsFirst (IsTaken places count able (IsOver op floor)) None → FindsLeastTerm (IsNode shapes op places count us floor) None
      node_none h = λ u n. h n.args (node_taken u n)

      -- what is taken may be made
      pub taken_made : (xs : List Term) → Ascends us → IsTaken places count able (IsOver op floor) xs → MayMake shapes op xs
      taken_made xs up h = args_made xs h.fact.0
          (some_ascends xs us (some_trans h.some (kept_some (MayStandUnder shapes op) k)) up)
          (some_all (MayStandUnder shapes op) h.some (kept_all (MayStandUnder shapes op) k))

      apps : (xs ys : List Term) → order (app_term op xs) (app_term op ys) ≡ args_order xs ys
      apps xs ys = order-apps op op xs ys ∙ ap (λ o. ordering_then o (args_order xs ys)) (tied_itself nat_cmp_total op.0)

      pub node_found : (xs : List Term) (row : Where Term) → FindsFirst (IsTaken places count able (IsOver op floor)) (Some xs) → row.value ≡ app_term op xs → MayStand shapes row.value
          → FindsLeastTerm (IsNode shapes op places count us floor) (Some row)
      node_found xs row h e may = (
        record {
          may = may;
          after = subst (After floor) (sym e) h.is.fact.1;
          args = xs;
          whole = e;
          some = some_trans h.is.some (kept_some (MayStandUnder shapes op) k);
          fits = h.is.fits;
        },
        λ u n. subst (NotAfter row.value) (sym n.whole) (subst (λ t. NotAfter t (app_term op n.args)) (sym e)
            (ap is_gt (apps xs n.args) ∙ h.first n.args (node_taken u n))),
      )
