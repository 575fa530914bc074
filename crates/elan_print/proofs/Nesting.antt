-- The canonical form of a canonical term whose nodes are nested is the term.
use Rattle.std.proofs.Common.{◌≡◌, refl, sym, ap, ◌∙◌, subst, ⊎_elim, ◌≤◌, true, false, cond, ℤ, Option, Some, None, List, [], ◌∷◌, ◌++◌, append_assoc, append-nil, length, slice_get, map, All, arith}
use Rattle.std.specs.List.{AllZip}
use Rattle.std.specs.Prelude.{option_map}
use Rattle.elan_terms.specs.declared.tree.OpId.{OpId}
use Rattle.elan_terms.specs.declared.tree.SortId.{SortId}
use Rattle.elan_terms.specs.declared.tree.Term.{Term}
use Rattle.elan_terms.specs.declared.tree.Shapes.{Shapes}
use Rattle.elan_terms.specs.Trees.{int_term, app_term}
use Rattle.elan_terms.specs.Term.{sort_of, is_ac, arms_under, ascending, node, canon}
use Rattle.elan_terms.proofs.TreeLemmas.{fold_term-app}
use Rattle.elan_program.specs.declared.signature.Assoc.{Assoc}
use Rattle.elan_program.specs.declared.signature.Assoc.TheVariants as assoc
use Rattle.elan_program.specs.declared.signature.Operator.{Operator}
use Rattle.elan_program.specs.declared.signature.Signature.{Signature}
use Rattle.elan_program.specs.Signature.{shape_of, shapes_of}
use Rattle.elan_program.specs.Soundness.{is_sound}
use Rattle.elan_program.proofs.ShapeLemmas.{ac-some}
use Rattle.elan_reading.specs.Edge.{counted}
use Rattle.elan_terms.specs.Nodes.{Throughout}
use Rattle.elan_terms.specs.Valid.{HasSort, IsNumber, MayTake, IsAllowed, IsValid}
use Rattle.elan_terms.specs.Ascending.{NotAfter}
use Rattle.elan_terms.specs.Canonical.{is_headed, IsSettled, IsCanonical}
use Rattle.elan_terms.proofs.Lists.{AllOf, Pairs, all_of, pairs_of}
use Rattle.elan_terms.proofs.Induction.{ind_term}
use Rattle.elan_terms.proofs.NodeLemmas.{app_throughout, match_true, match_false}
use Rattle.elan_terms.proofs.Sorting.{ascending-itself}
use Rattle.elan_laws.proofs.CanonicalLaws.{canonical_app, canon-of_app, canon-of_int, node-ac, node-itself, arms-other, arms-same, true_or_false, valid_app}
use Rattle.elan_print.specs.Terms.{to_left, to_right, to_side, nested_by, nested}
use Rattle.elan_reading.proofs.Sound.{sound_at, ac_sorts, shape_at}
use Rattle.elan_print.proofs.SortLemmas.{sort_at}

-- ---- the equations

pub nested-app : (g : Signature) (op : OpId) (ts : List Term) → nested g (app_term op ts) ≡ nested_by (slice_get g.operators op.0) op (map (nested g) ts)
unfolding nested
nested-app g op ts = fold_term-app int_term (λ op ts. nested_by (slice_get g.operators op.0) op ts) op ts

pub nested-int : (g : Signature) (z : ℤ) → nested g (int_term z) ≡ int_term z
unfolding nested
nested-int g z = refl

plain_by : (o : Operator) (op : OpId) (ts : List Term) → o.ac ≡ false → nested_by (Some o) op ts ≡ app_term op ts
plain_by o op [] e = refl
plain_by o op (t ∷ []) e = refl
plain_by o op (t ∷ u ∷ us) e = ap (λ b. cond b (to_side (counted o) op t (u ∷ us)) (app_term op (t ∷ u ∷ us))) e

ac_by : (o : Operator) (op : OpId) (t u : Term) (us : List Term) → o.ac ≡ true → nested_by (Some o) op (t ∷ u ∷ us) ≡ to_side (counted o) op t (u ∷ us)
ac_by o op t u us e = ap (λ b. cond b (to_side (counted o) op t (u ∷ us)) (app_term op (t ∷ u ∷ us))) e

-- ---- canonical form

pairs_front : (xs ys : List Term) (y : Term) → Pairs NotAfter (xs ++ y ∷ ys) → Pairs NotAfter (xs ++ y ∷ [])
pairs_front [] ys y h = (tt, tt)
pairs_front (x ∷ xs) ys y h = (all_front xs ys y h.0, pairs_front xs ys y h.1)
  where
    all_front : (xs ys : List Term) (y : Term) → AllOf (NotAfter x) (xs ++ y ∷ ys) → AllOf (NotAfter x) (xs ++ y ∷ [])
    all_front [] ys y h = (h.0, tt)
    all_front (w ∷ xs) ys y h = (h.0, all_front xs ys y h.1)

module _ (shapes : Shapes) (op : OpId) (ac : is_ac shapes op ≡ true) where
  -- the canonical form of a node of two, where their arguments ascend
  pub canon-two : (t u : Term) (xs ys : List Term) → arms_under op (canon shapes t) ≡ xs → arms_under op (canon shapes u) ≡ ys → Pairs NotAfter (xs ++ ys)
      → canon shapes (app_term op (t ∷ u ∷ [])) ≡ app_term op (xs ++ ys)
  canon-two t u xs ys e f h =
      canon-of_app shapes op (t ∷ u ∷ []) ∙ node-ac shapes op (canon shapes t ∷ canon shapes u ∷ []) ac
      ∙ ap (λ ws. app_term op (ascending ws)) (ap (λ ws. ws ++ (arms_under op (canon shapes u) ++ [])) e ∙ ap (λ ws. xs ++ ws) (append-nil (arms_under op (canon shapes u)) ∙ f))
      ∙ ap (app_term op) (ascending-itself (xs ++ ys) h)

  pub canon-left : (w : Term) (ws : List Term) (u : Term) (us : List Term) → arms_under op (canon shapes w) ≡ ws → AllOf (λ t. is_headed op t ≡ false) (map (canon shapes) (u ∷ us))
      → Pairs NotAfter (ws ++ map (canon shapes) (u ∷ us)) → canon shapes (to_left op w (u ∷ us)) ≡ app_term op (ws ++ map (canon shapes) (u ∷ us))
  canon-left w ws u [] e h p = canon-two w u ws (canon shapes u ∷ []) e (arms-other op (canon shapes u) h.0) p
  canon-left w ws u (v ∷ us) e h p =
      let one : canon shapes (app_term op (w ∷ u ∷ [])) ≡ app_term op (ws ++ canon shapes u ∷ [])
      = canon-two w u ws (canon shapes u ∷ []) e (arms-other op (canon shapes u) h.0) (pairs_front ws (map (canon shapes) (v ∷ us)) (canon shapes u) p) in
      let moved : (ws ++ canon shapes u ∷ []) ++ map (canon shapes) (v ∷ us) ≡ ws ++ map (canon shapes) (u ∷ v ∷ us)
      = append_assoc ws (canon shapes u ∷ []) (map (canon shapes) (v ∷ us)) in
      canon-left (app_term op (w ∷ u ∷ [])) (ws ++ canon shapes u ∷ []) v us (ap (arms_under op) one ∙ arms-same op (ws ++ canon shapes u ∷ [])) h.1
      (subst (Pairs NotAfter) (sym moved) p)
      ∙ ap (app_term op) moved

  pub canon-right : (t u : Term) (us : List Term) → AllOf (λ t. is_headed op t ≡ false) (map (canon shapes) (t ∷ u ∷ us)) → Pairs NotAfter (map (canon shapes) (t ∷ u ∷ us))
      → canon shapes (to_right op t (u ∷ us)) ≡ app_term op (map (canon shapes) (t ∷ u ∷ us))
  canon-right t u [] h p = canon-two t u (canon shapes t ∷ []) (canon shapes u ∷ []) (arms-other op (canon shapes t) h.0) (arms-other op (canon shapes u) h.1.0) p
  canon-right t u (v ∷ us) h p =
      canon-two t (to_right op u (v ∷ us)) (canon shapes t ∷ []) (map (canon shapes) (u ∷ v ∷ us)) (arms-other op (canon shapes t) h.0)
      (ap (arms_under op) (canon-right u v us h.1 p.1) ∙ arms-same op (map (canon shapes) (u ∷ v ∷ us))) p

  canon-side : (a : Assoc) (t u : Term) (us : List Term) → AllOf (λ t. is_headed op t ≡ false) (map (canon shapes) (t ∷ u ∷ us)) → Pairs NotAfter (map (canon shapes) (t ∷ u ∷ us))
      → canon shapes (to_side a op t (u ∷ us)) ≡ app_term op (map (canon shapes) (t ∷ u ∷ us))
  canon-side assoc.Right t u us h p = canon-right t u us h p
  canon-side assoc.Left t u us h p = canon-left t (canon shapes t ∷ []) u us (arms-other op (canon shapes t) h.0) h.1 p
  canon-side assoc.No t u us h p = canon-left t (canon shapes t ∷ []) u us (arms-other op (canon shapes t) h.0) h.1 p

  -- the same of terms that are their own canonical form
  pub canon-nest : (a : Assoc) (t u : Term) (us ws : List Term) → map (canon shapes) (t ∷ u ∷ us) ≡ ws → IsSettled shapes op ws → canon shapes (to_side a op t (u ∷ us)) ≡ app_term op ws
  canon-nest a t u us ws e h =
      let all : AllOf (λ t. is_headed op t ≡ false) ws = all_of (λ t. is_headed op t ≡ false) ws (h ac).0 in
      canon-side a t u us (subst (AllOf (λ t. is_headed op t ≡ false)) (sym e) all) (subst (Pairs NotAfter) (sym e) (pairs_of NotAfter ws (h ac).1)) ∙ ap (app_term op) e

module _ (g : Signature) where
  -- the canonical form of a nested node over terms that have these canonical forms
  canon_by : (x : Option Operator) (op : OpId) (ts ws : List Term) → slice_get g.operators op.0 ≡ x → map (canon (shapes_of g)) ts ≡ ws → IsSettled (shapes_of g) op ws
      → canon (shapes_of g) (nested_by x op ts) ≡ app_term op ws
  canon_by None op ts ws e f h = canon-of_app (shapes_of g) op ts ∙ ap (node (shapes_of g) op) f ∙ node-itself (shapes_of g) op ws h
  canon_by (Some o) op [] ws e f h = canon-of_app (shapes_of g) op [] ∙ ap (node (shapes_of g) op) f ∙ node-itself (shapes_of g) op ws h
  canon_by (Some o) op (t ∷ []) ws e f h = canon-of_app (shapes_of g) op (t ∷ []) ∙ ap (node (shapes_of g) op) f ∙ node-itself (shapes_of g) op ws h
  canon_by (Some o) op (t ∷ u ∷ us) ws e f h = ⊎_elim
      (λ ac. ap (canon (shapes_of g)) (ac_by o op t u us ac) ∙ canon-nest (shapes_of g) op (sym (ac-some g op o e) ∙ ac) (counted o) t u us ws f h)
      (λ plain. ap (canon (shapes_of g)) (plain_by o op (t ∷ u ∷ us) plain) ∙ canon-of_app (shapes_of g) op (t ∷ u ∷ us) ∙ ap (node (shapes_of g) op) f ∙ node-itself (shapes_of g) op ws h)
      (true_or_false o.ac)

  back : (ts : List Term) → AllOf (λ t. IsCanonical (shapes_of g) t → canon (shapes_of g) (nested g t) ≡ t) ts → AllOf (IsCanonical (shapes_of g)) ts → map (canon (shapes_of g)) (map (nested g) ts) ≡ ts
  back [] h k = refl
  back (t ∷ ts) h k = ap (λ u. u ∷ map (canon (shapes_of g)) (map (nested g) ts)) (h.0 k.0) ∙ ap (λ us. t ∷ us) (back ts h.1 k.1)

  -- the canonical form of a nested canonical term is the term
  pub canon-nested : (t : Term) → IsCanonical (shapes_of g) t → canon (shapes_of g) (nested g t) ≡ t
  canon-nested = ind_term (λ t. IsCanonical (shapes_of g) t → canon (shapes_of g) (nested g t) ≡ t)
      (λ z c. ap (canon (shapes_of g)) (nested-int g z) ∙ canon-of_int (shapes_of g) z)
      (λ op ts h c.
      let k : IsSettled (shapes_of g) op ts × AllOf (IsCanonical (shapes_of g)) ts = canonical_app (shapes_of g) op ts c in
      ap (canon (shapes_of g)) (nested-app g op ts) ∙ canon_by (slice_get g.operators op.0) op (map (nested g) ts) ts refl (back ts h k.1) k.0)

-- ---- validity

-- there is such an operator, and an argument of each of its sorts
abbrev pub NodeFits : Signature → OpId → List Term → Type 0
NodeFits g op ts = (o : Operator) × (slice_get g.operators op.0 ≡ Some o) × AllZip (HasSort (shapes_of g)) ts o.args

-- each integer is in range, and each application has as many arguments as its spelling has holes
abbrev pub FitsThroughout : Signature → Term → Type 0
FitsThroughout g = Throughout (IsNumber (shapes_of g)) (NodeFits g)

-- a term that fits and has the sort
abbrev pub FitsAt : Signature → SortId → Term → Type 0
FitsAt g s t = FitsThroughout g t × HasSort (shapes_of g) t s

module _ (g : Signature) (op : OpId) (o : Operator) (at : slice_get g.operators op.0 ≡ Some o) (two : o.args ≡ o.sort ∷ o.sort ∷ []) where
  fits_two : (t u : Term) → FitsAt g o.sort t → FitsAt g o.sort u → FitsAt g o.sort (app_term op (t ∷ u ∷ []))
  fits_two t u h k =
      (app_throughout (IsNumber (shapes_of g)) (NodeFits g) op (t ∷ u ∷ []) (o, at, subst (AllZip (HasSort (shapes_of g)) (t ∷ u ∷ [])) (sym two) (h.1, (k.1, tt))) (h.0, (k.0, tt)), sort_at g op o (t ∷ u ∷ []) at)

  fits_left : (t : Term) (us : List Term) → FitsAt g o.sort t → AllOf (FitsAt g o.sort) us → FitsAt g o.sort (to_left op t us)
  fits_left t [] h k = h
  fits_left t (u ∷ us) h k = fits_left (app_term op (t ∷ u ∷ [])) us (fits_two t u h k.0) k.1

  fits_right : (t : Term) (us : List Term) → FitsAt g o.sort t → AllOf (FitsAt g o.sort) us → FitsAt g o.sort (to_right op t us)
  fits_right t [] h k = h
  fits_right t (u ∷ us) h k = fits_two t (to_right op u us) h (fits_right u us k.0 k.1)

  fits_side : (a : Assoc) (t : Term) (us : List Term) → FitsAt g o.sort t → AllOf (FitsAt g o.sort) us → FitsAt g o.sort (to_side a op t us)
  fits_side assoc.Right t us h k = fits_right t us h k
  fits_side assoc.Left t us h k = fits_left t us h k
  fits_side assoc.No t us h k = fits_left t us h k

-- a term that fits, and has the sort of another one
abbrev pub FitsLike : Signature → Term → Term → Type 0
FitsLike g t u = FitsThroughout g u × (sort_of (shapes_of g) u ≡ sort_of (shapes_of g) t)

module _ (g : Signature) (sound : is_sound g ≡ true) where
  like_all : (ts : List Term) → AllOf (λ t. IsValid (shapes_of g) t → FitsLike g t (nested g t)) ts → AllOf (IsValid (shapes_of g)) ts → AllOf (λ t. FitsLike g t (nested g t)) ts
  like_all [] h k = tt
  like_all (t ∷ ts) h k = (h.0 k.0, like_all ts h.1 k.1)

  sorts_zip : (ts : List Term) (ss : List SortId) → AllOf (λ t. FitsLike g t (nested g t)) ts → AllZip (HasSort (shapes_of g)) ts ss → AllZip (HasSort (shapes_of g)) (map (nested g) ts) ss
  sorts_zip [] [] h z = tt
  sorts_zip [] (s ∷ ss) h z = absurd z
  sorts_zip (t ∷ ts) [] h z = absurd z
  sorts_zip (t ∷ ts) (s ∷ ss) h z = (h.0.1 ∙ z.0, sorts_zip ts ss h.1 z.1)

  fit_all : (ts : List Term) → AllOf (λ t. FitsLike g t (nested g t)) ts → AllOf (FitsThroughout g) (map (nested g) ts)
  fit_all [] h = tt
  fit_all (t ∷ ts) h = (h.0.0, fit_all ts h.1)

  at_all : (s : SortId) (ts : List Term) → AllOf (λ t. FitsLike g t (nested g t)) ts → AllOf (λ t. HasSort (shapes_of g) t s) ts → AllOf (FitsAt g s) (map (nested g) ts)
  at_all s [] h k = tt
  at_all s (t ∷ ts) h k = ((h.0.0, h.0.1 ∙ k.0), at_all s ts h.1 k.1)

  module _ (op : OpId) (o : Operator) (at : slice_get g.operators op.0 ≡ Some o) where
    fit_plain : (ts : List Term) → o.ac ≡ false → AllZip (HasSort (shapes_of g)) ts o.args → AllOf (λ t. FitsLike g t (nested g t)) ts → FitsAt g o.sort (nested_by (Some o) op (map (nested g) ts))
    fit_plain ts plain z h = subst (FitsAt g o.sort) (sym (plain_by o op (map (nested g) ts) plain))
        (app_throughout (IsNumber (shapes_of g)) (NodeFits g) op (map (nested g) ts) (o, at, sorts_zip ts o.args h z) (fit_all ts h), sort_at g op o (map (nested g) ts) at)

    fit_ac : (ts : List Term) → o.ac ≡ true → 2 ≤ length ts → AllOf (λ t. HasSort (shapes_of g) t o.sort) ts → AllOf (λ t. FitsLike g t (nested g t)) ts → FitsAt g o.sort (nested_by (Some o) op (map (nested g) ts))
    fit_ac [] ac two k h = absurd (omega arith)
    fit_ac (t ∷ []) ac two k h = absurd (omega arith)
    fit_ac (t ∷ u ∷ us) ac two k h =
        let all : AllOf (FitsAt g o.sort) (map (nested g) (t ∷ u ∷ us)) = at_all o.sort (t ∷ u ∷ us) h k in
        subst (FitsAt g o.sort) (sym (ac_by o op (nested g t) (nested g u) (map (nested g) us) ac))
        (fits_side g op o at (ac_sorts o (sound_at g sound op.0 o at) ac) (counted o) (nested g t) (map (nested g) (u ∷ us)) all.0 all.1)

  fit_by : (x : Option Operator) (op : OpId) (ts : List Term) → slice_get g.operators op.0 ≡ x → MayTake (shapes_of g) (option_map shape_of x) ts → AllOf (λ t. FitsLike g t (nested g t)) ts
      → FitsLike g (app_term op ts) (nested_by x op (map (nested g) ts))
  fit_by None op ts e m h = absurd m
  fit_by (Some o) op ts e m h =
      let there : FitsAt g o.sort (nested_by (Some o) op (map (nested g) ts)) = ⊎_elim
      (λ ac. let k : (2 ≤ length ts) × All (λ t. HasSort (shapes_of g) t o.sort) ts = match_true o.ac _ _ ac m in
      fit_ac op o e ts ac k.0 (all_of (λ t. HasSort (shapes_of g) t o.sort) ts k.1) h)
      (λ plain. fit_plain op o e ts plain (match_false o.ac _ _ plain m) h)
      (true_or_false o.ac) in
      (there.0, there.1 ∙ sym (sort_at g op o ts e))

  taken_at : (op : OpId) (ts : List Term) → IsAllowed (shapes_of g) op ts → MayTake (shapes_of g) (option_map shape_of (slice_get g.operators op.0)) ts
  unfolding shapes_of
  taken_at op ts h = subst (λ x. MayTake (shapes_of g) x ts) (shape_at g op.0) h

  -- a nested valid term fits and keeps its sort
  pub nested_fits : (t : Term) → IsValid (shapes_of g) t → FitsLike g t (nested g t)
  nested_fits = ind_term (λ t. IsValid (shapes_of g) t → FitsLike g t (nested g t))
      (λ z v. subst (FitsLike g (int_term z)) (sym (nested-int g z)) (v, refl))
      (λ op ts h v.
      let k : IsAllowed (shapes_of g) op ts × AllOf (IsValid (shapes_of g)) ts = valid_app (shapes_of g) op ts v in
      subst (FitsLike g (app_term op ts)) (sym (nested-app g op ts))
      (fit_by (slice_get g.operators op.0) op ts refl (taken_at op ts k.0) (like_all ts h k.1)))
