-- The matches of a pattern in a canonical term are what `IsMatch` says, each once and in order.
use Rattle.std.proofs.Common.{◌≡◌, refl, sym, ap, ◌∙◌, ◌↔◌, inl, inr, subst, ℕ, pos, Bool, true, false, cond, ◌==◌, eqb-true, eq-eqb, Option, Some, None, List, [], ◌∷◌, ◌++◌, map, Contains, filter, flat_map}
use Rattle.std.specs.List.{AllZip}
use Rattle.std.specs.declared.cmp.Ordering.TheVariants.{Less}
use Rattle.std.specs.Ordering.{ordering_then}
use Rattle.std.specs.Cmp.Lexicographic.{slice_cmp}
use Rattle.elan_terms.specs.declared.tree.OpId.{OpId}
use Rattle.elan_terms.specs.declared.tree.SortId.{SortId}
use Rattle.elan_terms.specs.declared.tree.Term.{Term}
use Rattle.elan_terms.specs.declared.tree.Pattern.{Pattern}
use Rattle.elan_terms.specs.declared.tree.PatternNode as pattern
use Rattle.elan_terms.specs.declared.tree.Shapes.{Shapes}
use Rattle.elan_terms.specs.Trees.{int_term, app_term, fold_pattern_row}
use Rattle.elan_terms.specs.Term.{order, same, sort_of, node, canon}
use Rattle.elan_terms.specs.Match.{parts, variables, is_sort, has_sort, prefixed, choices, assignments, bound, instance, fits, matches}
use Rattle.elan_terms.proofs.OrderLemmas.{order-itself, same-equal, equal-same}
use Rattle.elan_terms.specs.Valid.{HasSort, IsValid}
use Rattle.elan_terms.specs.Ascending.{Before, NotAfter}
use Rattle.elan_terms.specs.Canonical.{is_headed, IsSettled, IsCanonical}
use Rattle.elan_laws.specs.Parts.{SomeOf, IsPart, whole, inside, some}
use Rattle.elan_laws.specs.Matching.{filled, MayHave, IsMatch, AscendLexicographically}
use Rattle.elan_terms.proofs.Lists.{AllOf, Pairs, In, in_of_contains, contains_of_in, all_of, all_from, pairs_of, pairs_from, in_all, all_append, in_filter, in_kept, in_map, in_mapped, in_flat, in_flattened}
use Rattle.elan_terms.proofs.Sorting.{not_true}
use Rattle.elan_laws.proofs.TimesLaws.{some_all, some_pairs}
use Rattle.elan_laws.proofs.CanonicalLaws.{canon-of_int, canon-of_app, canonical-canon, canonical_app, app_canonical}
use Rattle.elan_laws.proofs.PartLaws.{parts-ascend, parts-exact}

-- ---- in order

module _ {X : Type 0} (R : X → X → Type 0) where
  pub pairs_append : (xs ys : List X) → Pairs R xs → Pairs R ys → AllOf (λ x. AllOf (R x) ys) xs → Pairs R (xs ++ ys)
  pairs_append [] ys h k l = k
  pairs_append (x ∷ xs) ys h k l = (all_append (R x) xs ys h.0 l.0, pairs_append xs ys h.1 k l.1)

  filtered_by : (P : X → Type 0) (x : X) (rest : List X) (b : Bool) → P x → AllOf P rest → AllOf P (cond b (x ∷ rest) rest)
  filtered_by P x rest true p h = (p, h)
  filtered_by P x rest false p h = h

  pub all_filter : (P : X → Type 0) (f : X → Bool) (xs : List X) → AllOf P xs → AllOf P (filter f xs)
  all_filter P f [] h = tt
  all_filter P f (x ∷ xs) h = filtered_by P x (filter f xs) (f x) h.0 (all_filter P f xs h.1)

  pairs_filtered_by : (x : X) (rest : List X) (b : Bool) → AllOf (R x) rest → Pairs R rest → Pairs R (cond b (x ∷ rest) rest)
  pairs_filtered_by x rest true h k = (h, k)
  pairs_filtered_by x rest false h k = k

  pub pairs_filter : (f : X → Bool) (xs : List X) → Pairs R xs → Pairs R (filter f xs)
  pairs_filter f [] h = tt
  pairs_filter f (x ∷ xs) h = pairs_filtered_by x (filter f xs) (f x) (all_filter (R x) f xs h.0) (pairs_filter f xs h.1)

same_first : (t : Term) (a b : List Term) → slice_cmp order a b ≡ Less → slice_cmp order (t ∷ a) (t ∷ b) ≡ Less
same_first t a b e = ap (λ o. ordering_then o (slice_cmp order a b)) (order-itself t) ∙ e

lesser_first : (t u : Term) (a b : List Term) → order t u ≡ Less → slice_cmp order (t ∷ a) (u ∷ b) ≡ Less
lesser_first t u a b e = ap (λ o. ordering_then o (slice_cmp order a b)) e

-- one list before others
abbrev Lex : List Term → List Term → Type 0
Lex a b = slice_cmp order a b ≡ Less

prefixed-after : (t : Term) (a : List Term) (lists : List (List Term)) → AllOf (Lex a) lists → AllOf (Lex (t ∷ a)) (map (λ ts. t ∷ ts) lists)
prefixed-after t a [] h = tt
prefixed-after t a (b ∷ lists) h = (same_first t a b h.0, prefixed-after t a lists h.1)

prefixed-pairs : (t : Term) (lists : List (List Term)) → Pairs Lex lists → Pairs Lex (map (λ ts. t ∷ ts) lists)
prefixed-pairs t [] h = tt
prefixed-pairs t (a ∷ lists) h = (prefixed-after t a lists h.0, prefixed-pairs t lists h.1)

prefixed-lesser : (t u : Term) (a : List Term) (lists : List (List Term)) → order t u ≡ Less → AllOf (Lex (t ∷ a)) (map (λ ts. u ∷ ts) lists)
prefixed-lesser t u a [] e = tt
prefixed-lesser t u a (b ∷ lists) e = (lesser_first t u a b e, prefixed-lesser t u a lists e)

prefixed-all_lesser : (t : Term) (a : List Term) (us : List Term) (lists : List (List Term)) → AllOf (Before t) us → AllOf (Lex (t ∷ a)) (flat_map (prefixed lists) us)
unfolding prefixed
prefixed-all_lesser t a [] lists h = tt
prefixed-all_lesser t a (u ∷ us) lists h = all_append (Lex (t ∷ a)) (map (λ ts. u ∷ ts) lists) (flat_map (prefixed lists) us) (prefixed-lesser t u a lists h.0) (prefixed-all_lesser t a us lists h.1)

prefixed-cross : (t : Term) (lists all : List (List Term)) (ts : List Term) → AllOf (Before t) ts → AllOf (λ a. AllOf (Lex a) (flat_map (prefixed all) ts)) (map (λ a. t ∷ a) lists)
prefixed-cross t [] all ts h = tt
prefixed-cross t (a ∷ lists) all ts h = (prefixed-all_lesser t a ts all h, prefixed-cross t lists all ts h)

each-prefixed : (lists : List (List Term)) (ts : List Term) → Pairs Before ts → Pairs Lex lists → Pairs Lex (flat_map (prefixed lists) ts)
unfolding prefixed
each-prefixed lists [] h k = tt
each-prefixed lists (t ∷ ts) h k =
    pairs_append Lex (map (λ a. t ∷ a) lists) (flat_map (prefixed lists) ts) (prefixed-pairs t lists k) (each-prefixed lists ts h.1 k) (prefixed-cross t lists lists ts h.0)

choices-ascend : (shapes : Shapes) (all : List Term) (vs : List (ℕ × SortId)) → Pairs Before all → Pairs Lex (choices shapes all vs)
choices-ascend shapes all [] h = (tt, tt)
choices-ascend shapes all (v ∷ vs) h =
    each-prefixed (choices shapes all vs) (filter (has_sort shapes v.1) all) (pairs_filter Before (has_sort shapes v.1) all h) (choices-ascend shapes all vs h)

pub matches-ascend : (shapes : Shapes) (p : Pattern) (t : Term) → AscendLexicographically (matches shapes p t)
unfolding matches assignments
matches-ascend shapes p t =
    pairs_from Lex _ (pairs_filter Lex (fits shapes (variables p) p t) _ (choices-ascend shapes (parts shapes t) (variables p) (pairs_of Before _ (parts-ascend shapes t))))

-- ---- the assignments

pub is_sort-some : (o : Option SortId) (s : SortId) → is_sort o s ≡ true → o ≡ Some s
is_sort-some None s e = not_true (sym e)
is_sort-some (Some r) s e = ap (λ (n : ℕ). Some (record { 0 = n })) (eqb-true r.0 s.0 e)

some-is_sort : (o : Option SortId) (s : SortId) → o ≡ Some s → is_sort o s ≡ true
some-is_sort o s e = ap (λ q. is_sort q s) e ∙ eq-eqb s.0 s.0 refl

has_sort-HasSort : (shapes : Shapes) (t : Term) (s : SortId) → has_sort shapes s t ≡ true → HasSort shapes t s
unfolding has_sort
has_sort-HasSort shapes t s e = is_sort-some (sort_of shapes t) s e

HasSort-has_sort : (shapes : Shapes) (t : Term) (s : SortId) → HasSort shapes t s → has_sort shapes s t ≡ true
unfolding has_sort
HasSort-has_sort shapes t s e = some-is_sort (sort_of shapes t) s e

-- a variable has one of the terms as its value
abbrev Chooses : Shapes → List Term → ℕ × SortId → Term → Type 0
Chooses shapes all v u = In u all × HasSort shapes u v.1

zip_at : (shapes : Shapes) (all : List Term) (v : ℕ × SortId) (vs : List (ℕ × SortId)) (u : Term) (a b : List Term) → b ≡ u ∷ a → Chooses shapes all v u → AllZip (Chooses shapes all) vs a → AllZip (Chooses shapes all) (v ∷ vs) b
zip_at shapes all v vs u a b e h k = subst (AllZip (Chooses shapes all) (v ∷ vs)) (sym e) (h, k)

choices-zip : (shapes : Shapes) (all : List Term) (vs : List (ℕ × SortId)) (a : List Term) → In a (choices shapes all vs) → AllZip (Chooses shapes all) vs a
unfolding prefixed
choices-zip shapes all [] a (inl e) = subst (AllZip (Chooses shapes all) []) (sym e) tt
choices-zip shapes all [] a (inr i) = elim i [ ]
choices-zip shapes all (v ∷ vs) a i =
    let h : (u : Term) × In u (filter (has_sort shapes v.1) all) × In a (prefixed (choices shapes all vs) u) = in_flat (prefixed (choices shapes all vs)) (filter (has_sort shapes v.1) all) a i in
    let k : In h.0 all × (has_sort shapes v.1 h.0 ≡ true) = in_filter (has_sort shapes v.1) all h.0 h.1 in
    let l : (b : List Term) × In b (choices shapes all vs) × (a ≡ h.0 ∷ b) = in_map (λ ts. h.0 ∷ ts) (choices shapes all vs) a h.2 in
    zip_at shapes all v vs h.0 l.0 a l.2 (k.0, has_sort-HasSort shapes h.0 v.1 k.1) (choices-zip shapes all vs l.0 l.1)

zip-choices : (shapes : Shapes) (all : List Term) (vs : List (ℕ × SortId)) (a : List Term) → AllZip (Chooses shapes all) vs a → In a (choices shapes all vs)
unfolding prefixed
zip-choices shapes all [] [] h = inl refl
zip-choices shapes all [] (u ∷ a) h = absurd h
zip-choices shapes all (v ∷ vs) [] h = absurd h
zip-choices shapes all (v ∷ vs) (u ∷ a) h =
    in_flattened (prefixed (choices shapes all vs)) (filter (has_sort shapes v.1) all) u (u ∷ a)
    (in_kept (has_sort shapes v.1) all u h.0.0 (HasSort-has_sort shapes u v.1 h.0.1))
    (in_mapped (λ ts. u ∷ ts) (choices shapes all vs) a (zip-choices shapes all vs a h.1))

module _ {A B : Type 0} (R S : A → B → Type 0) (f : (x : A) (y : B) → R x y → S x y) where
  pub zip_weaker : (xs : List A) (ys : List B) → AllZip R xs ys → AllZip S xs ys
  zip_weaker [] [] h = h
  zip_weaker [] (y ∷ ys) h = h
  zip_weaker (x ∷ xs) [] h = h
  zip_weaker (x ∷ xs) (y ∷ ys) h = (f x y h.0, zip_weaker xs ys h.1)

module _ {A B : Type 0} (P : B → Type 0) where
  pub zip_second : (xs : List A) (ys : List B) → AllZip (λ _ y. P y) xs ys → AllOf P ys
  zip_second [] [] h = tt
  zip_second [] (y ∷ ys) h = absurd h
  zip_second (x ∷ xs) [] h = tt
  zip_second (x ∷ xs) (y ∷ ys) h = (h.0, zip_second xs ys h.1)

-- ---- parts of a canonical term are canonical

some_settled : (shapes : Shapes) (op : OpId) (ts us : List Term) → SomeOf us ts → IsSettled shapes op ts → IsSettled shapes op us
some_settled shapes op ts us s h ac = (
  all_from (λ t. is_headed op t ≡ false) us (some_all (λ t. is_headed op t ≡ false) s (all_of (λ t. is_headed op t ≡ false) ts (h ac).0)),
  pairs_from NotAfter us (some_pairs NotAfter s (pairs_of NotAfter ts (h ac).1)),
)

pub part-canonical : (shapes : Shapes) (p t : Term) → IsCanonical shapes t → IsPart shapes p t → IsCanonical shapes p
part-canonical shapes p t c (whole e) = subst (IsCanonical shapes) (sym e) c
part-canonical shapes p t c (inside op ts u i h) = part-canonical shapes p u (in_all (IsCanonical shapes) ts u (canonical_app shapes op ts c).1 (in_of_contains ts u i)) h
part-canonical shapes p t c (some op ts us ac s two e) = subst (IsCanonical shapes) (sym e)
    (app_canonical shapes op us (some_settled shapes op ts us s (canonical_app shapes op ts c).0) (some_all (IsCanonical shapes) s (canonical_app shapes op ts c).1))

-- ---- the canonical form of a pattern with canonical values

module _ (shapes : Shapes) (value : ℕ → Term) (canonical : (x : ℕ) → canon shapes (value x) ≡ value x) where
  mutual
    unfolding instance filled

    instance_node : (n : pattern.PatternNode) → instance shapes value (record { node = n }) ≡ canon shapes (filled value (record { node = n }))
    instance_node (pattern.Var x s) = sym (canonical x)
    instance_node (pattern.Int z) = sym (canon-of_int shapes z)
    instance_node (pattern.App' op shape row) =
        ap (node shapes op) (instance_row row) ∙ sym (canon-of_app shapes op (fold_pattern_row (λ x _. value x) int_term app_term row))

    instance_row : {n : _} (row : pattern.Row_of-Pattern n) → fold_pattern_row (λ x _. value x) int_term (node shapes) row ≡ map (canon shapes) (fold_pattern_row (λ x _. value x) int_term app_term row)
    instance_row pattern.end_of-Pattern = refl
    instance_row (pattern.more_of-Pattern x rest) =
        ap (λ t. t ∷ fold_pattern_row (λ x _. value x) int_term (node shapes) rest) (instance_node x)
        ∙ ap (λ ts. canon shapes (filled value (record { node = x })) ∷ ts) (instance_row rest)

  pub instance-canon : (p : Pattern) → instance shapes value p ≡ canon shapes (filled value p)
  instance-canon p = instance_node p.node

bound-canonical : (shapes : Shapes) (vs : List (ℕ × SortId)) (a : List Term) (x : ℕ) → AllOf (IsCanonical shapes) a → canon shapes (bound vs a x) ≡ bound vs a x
bound-canonical shapes [] a x h = canon-of_int shapes (pos 0)
bound-canonical shapes (v ∷ vs) [] x h = canon-of_int shapes (pos 0)
bound-canonical shapes (v ∷ vs) (t ∷ a) x h = go (v.0 == x) (canonical-canon shapes t h.0) (bound-canonical shapes vs a x h.1)
  where
    go : (b : Bool) → canon shapes t ≡ t → canon shapes (bound vs a x) ≡ bound vs a x → canon shapes (cond b t (bound vs a x)) ≡ cond b t (bound vs a x)
    go true e f = e
    go false e f = f

-- ---- the matches

module _ (shapes : Shapes) (p : Pattern) (t : Term) (valid : IsValid shapes t) (canonical : IsCanonical shapes t) (a : List Term) where
  values-canonical : AllZip (MayHave shapes t) (variables p) a → AllOf (IsCanonical shapes) a
  values-canonical h = zip_second (IsCanonical shapes) (variables p) a (zip_weaker (MayHave shapes t) (λ _ u. IsCanonical shapes u) (λ v u k. part-canonical shapes u t canonical k.0) (variables p) a h)

  makes-is : AllZip (MayHave shapes t) (variables p) a → instance shapes (bound (variables p) a) p ≡ canon shapes (filled (bound (variables p) a) p)
  makes-is h = instance-canon shapes (bound (variables p) a) (λ x. bound-canonical shapes (variables p) a x (values-canonical h)) p

  may_have : AllZip (Chooses shapes (parts shapes t)) (variables p) a → AllZip (MayHave shapes t) (variables p) a
  may_have h = zip_weaker (Chooses shapes (parts shapes t)) (MayHave shapes t) (λ v u k. ((parts-exact shapes t u valid).0 (contains_of_in (parts shapes t) u k.0), k.1)) (variables p) a h

  chooses : AllZip (MayHave shapes t) (variables p) a → AllZip (Chooses shapes (parts shapes t)) (variables p) a
  chooses h = zip_weaker (MayHave shapes t) (Chooses shapes (parts shapes t)) (λ v u k. (in_of_contains (parts shapes t) u ((parts-exact shapes t u valid).1 k.0), k.1)) (variables p) a h

  found-is : Contains (matches shapes p t) a → IsMatch shapes p t a
  unfolding matches assignments fits
  found-is c =
      let k : In a (choices shapes (parts shapes t) (variables p)) × (same (instance shapes (bound (variables p) a) p) t ≡ true) = in_filter (fits shapes (variables p) p t) (choices shapes (parts shapes t) (variables p)) a (in_of_contains _ a c) in
      let given : AllZip (MayHave shapes t) (variables p) a = may_have (choices-zip shapes (parts shapes t) (variables p) a k.0) in
      record { given = given; makes = sym (makes-is given) ∙ same-equal _ t k.1 }

  is-found : IsMatch shapes p t a → Contains (matches shapes p t) a
  unfolding matches assignments fits
  is-found m = contains_of_in _ a (in_kept (fits shapes (variables p) p t) (choices shapes (parts shapes t) (variables p)) a
      (zip-choices shapes (parts shapes t) (variables p) a (chooses m.given)) (equal-same _ t (makes-is m.given ∙ m.makes)))

  pub matches-exact : Contains (matches shapes p t) a ↔ IsMatch shapes p t a
  matches-exact = (found-is, is-found)
