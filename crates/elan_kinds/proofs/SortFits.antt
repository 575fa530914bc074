-- What fits the shape of an operator: arguments of the sorts that were found; nodes over such arguments.
use Rattle.std.proofs.Common.{◌≡◌, refl, sym, ap, ◌∙◌, ◌⊎◌, inl, inr, ⊎_elim, subst, suc, ◌≤◌, ◌&&◌, ◌||◌, eq-eqb, le-leb, All, leb-true, nat_le, Bool, true, false, cond, unwrap_or, Option, Some, None, List, [], ◌∷◌, map, length, slice_get, arith}
use Rattle.std.specs.List.{AllZip}
use Rattle.elan_terms.specs.declared.tree.OpId.{OpId}
use Rattle.elan_terms.specs.declared.tree.SortId.{SortId}
use Rattle.elan_terms.specs.declared.tree.Term.{Term}
use Rattle.elan_terms.specs.declared.tree.Shape.{Shape}
use Rattle.elan_terms.specs.declared.tree.Shapes.{Shapes}
use Rattle.elan_terms.specs.Trees.{app_term}
use Rattle.elan_terms.specs.Term.{shape_sort, sort_of, node, canon}
use Rattle.elan_terms.specs.Match.{is_sort}
use Rattle.elan_program.specs.declared.program.Program.{Program}
use Rattle.elan_program.specs.Signature.{shapes_of}
use Rattle.elan_program.specs.Patterns.{are_of_sorts, are_all_of, args_fit, sort_over}
use Rattle.elan_terms.specs.Valid.{HasSort, MayTake, IsValid, IsValidOf}
use Rattle.elan_terms.specs.Canonical.{IsCanonical}
use Rattle.elan_terms.proofs.Lists.{AllOf, all_of, all_from, all_map, mapped_itself}
use Rattle.elan_terms.proofs.Sorting.{not_true}
use Rattle.elan_laws.proofs.CanonicalLaws.{app_valid, sort-of_app, mapped_length, at_true, at_false, true_or_false, canon-of_app, canonical-canon, canon-canonical, canon-valid, canon-sort}
use Rattle.elan_laws.proofs.MatchLaws.{is_sort-some}
use Rattle.elan_terms.proofs.NodeLemmas.{match_true, match_false}
use Rattle.elan_kinds.specs.Kinds.{IsKind}

pub both : (a b : Bool) → a && b ≡ true → (a ≡ true) × (b ≡ true)
both true b e = (refl, e)
both false b e = not_true (sym e)

pub one : (a b : Bool) → a || b ≡ true → (a ≡ true) ⊎ (b ≡ true)
one true b e = inl refl
one false b e = inr e

pub some_inside : (s s' : SortId) → Some s ≡ Some s' → s ≡ s'
some_inside s s' e = ap (λ o. unwrap_or o s) e

pub not_some : {A : Type 0} (s : SortId) → None ≡ Some s → A
not_some s e = absurd (differ e)
  where
    differ : None ≡ Some s → ⊥
    differ f = cc

-- valid and canonical
abbrev pub Solid : Shapes → Term → Type 0
Solid shapes t = IsValid shapes t × IsCanonical shapes t

module _ (p : Program) where
  -- a term of the kind of this sort, where there is one
  abbrev pub KindIf : Option SortId → Term → Type 0
  KindIf o t = (s : SortId) → o ≡ Some s → IsKind p s t

  abbrev shapes : Shapes
  shapes = shapes_of p.signature

  pub kind_solid : (s : SortId) (t : Term) → IsKind p s t → Solid shapes t
  kind_solid s t k = (k.suits.0, k.canonical)

  alike_sorts : (s : SortId) (found : List (Option SortId)) (ts : List Term) → are_all_of s found ≡ true → AllZip KindIf found ts → AllOf (IsKind p s) ts
  alike_sorts s [] [] e h = tt
  alike_sorts s [] (t ∷ ts) e h = absurd h
  alike_sorts s (o ∷ found) [] e h = absurd h
  alike_sorts s (o ∷ found) (t ∷ ts) e h =
      let k : (is_sort o s ≡ true) × (are_all_of s found ≡ true) = both (is_sort o s) (are_all_of s found) e in
      (h.0 s (is_sort-some o s k.0), alike_sorts s found ts k.1 h.1)

  each_sort : (ss : List SortId) (found : List (Option SortId)) (ts : List Term) → are_of_sorts ss found ≡ true → AllZip KindIf found ts → AllZip (HasSort shapes) ts ss × AllOf (Solid shapes) ts
  each_sort [] [] [] e h = (tt, tt)
  each_sort [] [] (t ∷ ts) e h = absurd h
  each_sort [] (o ∷ found) ts e h = not_true (sym e)
  each_sort (s ∷ ss) [] ts e h = not_true (sym e)
  each_sort (s ∷ ss) (o ∷ found) [] e h = absurd h
  each_sort (s ∷ ss) (o ∷ found) (t ∷ ts) e h =
      let k : (is_sort o s ≡ true) × (are_of_sorts ss found ≡ true) = both (is_sort o s) (are_of_sorts ss found) e in
      let first : IsKind p s t = h.0 s (is_sort-some o s k.0) in
      let later : AllZip (HasSort shapes) ts ss × AllOf (Solid shapes) ts = each_sort ss found ts k.1 h.1 in
      ((first.suits.1, later.0), (kind_solid s t first, later.1))

  as_long : (found : List (Option SortId)) (ts : List Term) → AllZip KindIf found ts → length found ≡ length ts
  as_long [] [] h = refl
  as_long [] (t ∷ ts) h = absurd h
  as_long (o ∷ found) [] h = absurd h
  as_long (o ∷ found) (t ∷ ts) h = ap suc (as_long found ts h.1)

  shape_fits : (shape : Shape) (found : List (Option SortId)) (ts : List Term) → args_fit shape found ≡ true → AllZip KindIf found ts → MayTake shapes (Some shape) ts × AllOf (Solid shapes) ts
  unfolding args_fit
  shape_fits shape found ts e h = ⊎_elim
      (λ ac. let k : (nat_le 2 (length found) ≡ true) × (are_all_of shape.sort found ≡ true)
      = both (nat_le 2 (length found)) (are_all_of shape.sort found) (sym (ap (λ b. cond b (nat_le 2 (length found) && are_all_of shape.sort found) (are_of_sorts shape.args found)) ac) ∙ e) in
      let two : 2 ≤ length found = leb-true 2 (length found) k.0 in
      let long : length found ≡ length ts = as_long found ts h in
      let all : AllOf (IsKind p shape.sort) ts = alike_sorts shape.sort found ts k.1 h in (
        at_true shape.ac _ _ ac (omega arith, all_from (λ t. HasSort shapes t shape.sort) ts (all_map (IsKind p shape.sort) (λ t. HasSort shapes t shape.sort) (λ t k. k.suits.1) ts all)),
        all_map (IsKind p shape.sort) (Solid shapes) (kind_solid shape.sort) ts all,
      ))
      (λ plain. let k : are_of_sorts shape.args found ≡ true = sym (ap (λ b. cond b (nat_le 2 (length found) && are_all_of shape.sort found) (are_of_sorts shape.args found)) plain) ∙ e in
      let all : AllZip (HasSort shapes) ts shape.args × AllOf (Solid shapes) ts = each_sort shape.args found ts k h in
      (at_false shape.ac _ _ plain all.0, all.1))
      (true_or_false shape.ac)

  sort_fits : (o : Option Shape) (found : List (Option SortId)) (ts : List Term) (s : SortId) → sort_over o found ≡ Some s → AllZip KindIf found ts → MayTake shapes o ts × AllOf (Solid shapes) ts × (shape_sort o ≡ Some s)
  sort_fits None found ts s e h = not_some s e
  sort_fits (Some shape) found ts s e h = ⊎_elim
      (λ fit. let k : MayTake shapes (Some shape) ts × AllOf (Solid shapes) ts = shape_fits shape found ts fit h in
      (k.0, k.1, sym (ap (λ b. cond b (Some shape.sort) None) fit) ∙ e))
      (λ unfit. not_some s (sym (ap (λ b. cond b (Some shape.sort) None) unfit) ∙ e))
      (true_or_false (args_fit shape found))

  -- the canonical node of such arguments
  pub node_fits : (op : OpId) (found : List (Option SortId)) (us : List Term) (s : SortId) → sort_over (slice_get shapes.shapes op.0) found ≡ Some s → AllZip KindIf found us
      → IsValidOf shapes s (node shapes op us) × IsCanonical shapes (node shapes op us)
  node_fits op found us s e h =
      let k : MayTake shapes (slice_get shapes.shapes op.0) us × AllOf (Solid shapes) us × (shape_sort (slice_get shapes.shapes op.0) ≡ Some s) = sort_fits (slice_get shapes.shapes op.0) found us s e h in
      let valid : IsValid shapes (app_term op us) = app_valid shapes op us k.0 (all_map (Solid shapes) (IsValid shapes) (λ t s. s.0) us k.1) in
      let is : canon shapes (app_term op us) ≡ node shapes op us
      = canon-of_app shapes op us ∙ ap (node shapes op) (mapped_itself (canon shapes) us (all_map (Solid shapes) (λ t. canon shapes t ≡ t) (λ t s. canonical-canon shapes t s.1) us k.1)) in
      subst (λ t. IsValidOf shapes s t × IsCanonical shapes t) is
      ((canon-valid shapes (app_term op us) valid, canon-sort shapes (app_term op us) ∙ sort-of_app shapes op us ∙ k.2), canon-canonical shapes (app_term op us))

-- ---- what an operator takes fits it

pub and_true : (a b : Bool) → a ≡ true → b ≡ true → a && b ≡ true
and_true a b e f = ap (λ x. x && b) e ∙ f

pub some_is_sort : (o : Option SortId) (s : SortId) → o ≡ Some s → is_sort o s ≡ true
some_is_sort o s e = ap (λ q. is_sort q s) e ∙ eq-eqb s.0 s.0 refl

module _ (shapes : Shapes) where
  all_sorted : (s : SortId) (ts : List Term) → AllOf (λ t. HasSort shapes t s) ts → are_all_of s (map (sort_of shapes) ts) ≡ true
  all_sorted s [] h = refl
  all_sorted s (t ∷ ts) h = and_true (is_sort (sort_of shapes t) s) (are_all_of s (map (sort_of shapes) ts)) (some_is_sort (sort_of shapes t) s h.0) (all_sorted s ts h.1)

  each_sorted : (ts : List Term) (ss : List SortId) → AllZip (HasSort shapes) ts ss → are_of_sorts ss (map (sort_of shapes) ts) ≡ true
  each_sorted [] [] h = refl
  each_sorted [] (s ∷ ss) h = absurd h
  each_sorted (t ∷ ts) [] h = absurd h
  each_sorted (t ∷ ts) (s ∷ ss) h = and_true (is_sort (sort_of shapes t) s) (are_of_sorts ss (map (sort_of shapes) ts)) (some_is_sort (sort_of shapes t) s h.0) (each_sorted ts ss h.1)

  allowed_fits : (shape : Shape) (ts : List Term) → MayTake shapes (Some shape) ts → args_fit shape (map (sort_of shapes) ts) ≡ true
  unfolding args_fit
  allowed_fits shape ts h = ⊎_elim
      (λ ac. let k : (2 ≤ length ts) × All (λ t. HasSort shapes t shape.sort) ts = match_true shape.ac _ _ ac h in
      let long : length (map (sort_of shapes) ts) ≡ length ts = mapped_length (sort_of shapes) ts in
      let two : 2 ≤ length ts = k.0 in
      ap (λ b. cond b (nat_le 2 (length (map (sort_of shapes) ts)) && are_all_of shape.sort (map (sort_of shapes) ts)) (are_of_sorts shape.args (map (sort_of shapes) ts))) ac
      ∙ and_true (nat_le 2 (length (map (sort_of shapes) ts))) (are_all_of shape.sort (map (sort_of shapes) ts)) (le-leb 2 (length (map (sort_of shapes) ts)) (omega arith)) (all_sorted shape.sort ts (all_of (λ t. HasSort shapes t shape.sort) ts k.1)))
      (λ plain. ap (λ b. cond b (nat_le 2 (length (map (sort_of shapes) ts)) && are_all_of shape.sort (map (sort_of shapes) ts)) (are_of_sorts shape.args (map (sort_of shapes) ts))) plain
      ∙ each_sorted ts shape.args (match_false shape.ac _ _ plain h))
      (true_or_false shape.ac)

  pub takes_over : (o : Option Shape) (ts : List Term) → MayTake shapes o ts → sort_over o (map (sort_of shapes) ts) ≡ shape_sort o
  takes_over None ts h = absurd h
  takes_over (Some shape) ts h = ap (λ b. cond b (Some shape.sort) None) (allowed_fits shape ts h)

pub allowed_over : (p : Program) (o : Option Shape) (ts : List Term) → MayTake (shapes_of p.signature) o ts → sort_over o (map (sort_of (shapes_of p.signature)) ts) ≡ shape_sort o
allowed_over p o ts h = takes_over (shapes_of p.signature) o ts h
