-- Two terms are equal modulo associativity and commutativity exactly where their canonical forms are equal.
use Rattle.std.proofs.Common.{◌≡◌, refl, sym, ap, ◌∙◌, ◌↔◌, ⊎_elim, subst, suc, ◌+◌, ◌≤◌, Bool, true, false, cond, List, [], ◌∷◌, ◌++◌, append_assoc, append-nil, map, length, length-append, flat_map, is_gt, arith}
use Rattle.elan_terms.specs.declared.tree.OpId.{OpId}
use Rattle.elan_terms.specs.declared.tree.Term.{Term}
use Rattle.elan_terms.specs.declared.tree.Shapes.{Shapes}
use Rattle.elan_terms.specs.Trees.{app_term}
use Rattle.elan_terms.specs.Term.{order, put_in, ascending, is_ac, arms_under, node, canon}
use Rattle.elan_terms.specs.Valid.{IsValid}
use Rattle.elan_terms.specs.Canonical.{is_headed}
use Rattle.elan_laws.specs.Equality.{EqualModulo, reflexive, symmetric, transitive, congruent, commutative, associative, nested}
use Rattle.elan_terms.proofs.Lists.{AllOf, all_map, all_mapped}
use Rattle.elan_terms.proofs.Induction.{ind_term}
use Rattle.elan_terms.proofs.NodeLemmas.{two_arguments, valid_arguments}
use Rattle.elan_terms.proofs.Sorting.{put_in-length, ascending-length}
use Rattle.elan_laws.proofs.Multisets.{ascending-middle, ascending-swap}
use Rattle.elan_laws.proofs.CanonicalLaws.{true_or_false, canon-of_int, canon-of_app, canon-valid, node-ac, node-plain, arms-same, arms-other, headed_is, mapped_length}

-- ---- equal terms have equal canonical forms

flat-append : (op : OpId) (ts us : List Term) → flat_map (arms_under op) (ts ++ us) ≡ flat_map (arms_under op) ts ++ flat_map (arms_under op) us
flat-append op [] us = refl
flat-append op (t ∷ ts) us = ap (λ r. arms_under op t ++ r) (flat-append op ts us) ∙ sym (append_assoc (arms_under op t) (flat_map (arms_under op) ts) (flat_map (arms_under op) us))

arms-node : (shapes : Shapes) (op : OpId) (ts : List Term) → is_ac shapes op ≡ true → arms_under op (node shapes op ts) ≡ ascending (flat_map (arms_under op) ts)
arms-node shapes op ts ac = ap (arms_under op) (node-ac shapes op ts ac) ∙ arms-same op (ascending (flat_map (arms_under op) ts))

-- the arguments that these bring under an operator
abbrev flat : OpId → List Term → List Term
flat op us = flat_map (arms_under op) us

-- a node among the arguments may give its own arguments in its place
node-splice : (shapes : Shapes) (op : OpId) (front ts back : List Term) → is_ac shapes op ≡ true → node shapes op (front ++ node shapes op ts ∷ back) ≡ node shapes op (front ++ (ts ++ back))
node-splice shapes op front ts back ac =
    node-ac shapes op (front ++ node shapes op ts ∷ back) ac
    ∙ ap (λ us. app_term op (ascending us)) (flat-append op front (node shapes op ts ∷ back) ∙ ap (λ us. flat op front ++ (us ++ flat op back)) (arms-node shapes op ts ac))
    ∙ ap (app_term op) (ascending-middle (flat op front) (flat op ts) (flat op back))
    ∙ ap (λ us. app_term op (ascending us)) (sym (flat-append op front (ts ++ back) ∙ ap (λ us. flat op front ++ us) (flat-append op ts back)))
    ∙ sym (node-ac shapes op (front ++ (ts ++ back)) ac)

node-swap : (shapes : Shapes) (op : OpId) (t u : Term) → is_ac shapes op ≡ true → node shapes op (t ∷ u ∷ []) ≡ node shapes op (u ∷ t ∷ [])
node-swap shapes op t u ac =
    node-ac shapes op (t ∷ u ∷ []) ac
    ∙ ap (λ us. app_term op (ascending (arms_under op t ++ us))) (append-nil (arms_under op u))
    ∙ ap (app_term op) (ascending-swap (arms_under op t) (arms_under op u))
    ∙ ap (λ us. app_term op (ascending (arms_under op u ++ us))) (sym (append-nil (arms_under op t)))
    ∙ sym (node-ac shapes op (u ∷ t ∷ []) ac)

map-append : {X Y : Type 0} (f : X → Y) (xs ys : List X) → map f (xs ++ ys) ≡ map f xs ++ map f ys
map-append f [] ys = refl
map-append f (x ∷ xs) ys = ap (λ r. f x ∷ r) (map-append f xs ys)

-- a canonical form goes by the canonical forms of the arguments
canon-inside : (shapes : Shapes) (op : OpId) (before after : List Term) (t u : Term) → canon shapes t ≡ canon shapes u → canon shapes (app_term op (before ++ t ∷ after)) ≡ canon shapes (app_term op (before ++ u ∷ after))
canon-inside shapes op before after t u e =
    canon-of_app shapes op (before ++ t ∷ after) ∙ ap (node shapes op) (map-append (canon shapes) before (t ∷ after))
    ∙ ap (λ v. node shapes op (map (canon shapes) before ++ v ∷ map (canon shapes) after)) e
    ∙ sym (canon-of_app shapes op (before ++ u ∷ after) ∙ ap (node shapes op) (map-append (canon shapes) before (u ∷ after)))

pub equal-canon : (shapes : Shapes) (t u : Term) → EqualModulo shapes t u → canon shapes t ≡ canon shapes u
equal-canon shapes t u (reflexive e) = ap (canon shapes) e
equal-canon shapes t u (symmetric h) = sym (equal-canon shapes _ _ h)
equal-canon shapes t u (transitive h k) = equal-canon shapes _ _ h ∙ equal-canon shapes _ _ k
equal-canon shapes t u (congruent op before after v w h) = canon-inside shapes op before after v w (equal-canon shapes v w h)
equal-canon shapes t u (commutative f x y ac) = canon-of_app shapes f (x ∷ y ∷ []) ∙ node-swap shapes f (canon shapes x) (canon shapes y) ac ∙ sym (canon-of_app shapes f (y ∷ x ∷ []))
equal-canon shapes t u (associative f x y z ac) =
    canon-of_app shapes f (app_term f (x ∷ y ∷ []) ∷ z ∷ []) ∙ ap (λ v. node shapes f (v ∷ canon shapes z ∷ [])) (canon-of_app shapes f (x ∷ y ∷ []))
    ∙ node-splice shapes f [] (canon shapes x ∷ canon shapes y ∷ []) (canon shapes z ∷ []) ac
    ∙ sym (canon-of_app shapes f (x ∷ app_term f (y ∷ z ∷ []) ∷ []) ∙ ap (λ v. node shapes f (canon shapes x ∷ v ∷ [])) (canon-of_app shapes f (y ∷ z ∷ []))
    ∙ node-splice shapes f (canon shapes x ∷ []) (canon shapes y ∷ canon shapes z ∷ []) [] ac)
equal-canon shapes t u (nested f x y z more ac) =
    canon-of_app shapes f (x ∷ y ∷ z ∷ more)
    ∙ ap (λ us. node shapes f (canon shapes x ∷ us)) (sym (append-nil (map (canon shapes) (y ∷ z ∷ more))))
    ∙ sym (canon-of_app shapes f (x ∷ app_term f (y ∷ z ∷ more) ∷ []) ∙ ap (λ v. node shapes f (canon shapes x ∷ v ∷ [])) (canon-of_app shapes f (y ∷ z ∷ more))
    ∙ node-splice shapes f (canon shapes x ∷ []) (map (canon shapes) (y ∷ z ∷ more)) [] ac)

-- ---- arguments may be nested, change places and give up their arguments

one_or_more : {X : Type 0} (x : X) (xs : List X) → 1 ≤ length (x ∷ xs)
one_or_more x xs = omega arith

two_or_more : {X : Type 0} (x y : X) (xs : List X) → 2 ≤ length (x ∷ y ∷ xs)
two_or_more x y xs = omega arith

module _ (shapes : Shapes) (f : OpId) (ac : is_ac shapes f ≡ true) where
  -- f over these and f over those are equal
  abbrev Same : List Term → List Term → Type 0
  Same ts us = EqualModulo shapes (app_term f ts) (app_term f us)

  same_itself : (ts : List Term) → Same ts ts
  same_itself ts = reflexive refl

  same_if : (ts us : List Term) → ts ≡ us → Same ts us
  same_if ts us e = reflexive (ap (app_term f) e)

  -- the first argument and the node of the others
  nest : (x : Term) (ts : List Term) → 2 ≤ length ts → Same (x ∷ ts) (x ∷ app_term f ts ∷ [])
  nest x [] two = absurd (omega arith)
  nest x (y ∷ []) two = absurd (omega arith)
  nest x (y ∷ z ∷ more) two = nested f x y z more ac

  -- equal others behind one first argument
  behind : (x : Term) (ts us : List Term) → 2 ≤ length ts → 2 ≤ length us → Same ts us → Same (x ∷ ts) (x ∷ us)
  behind x ts us two two' h = transitive (nest x ts two) (transitive (congruent f (x ∷ []) [] (app_term f ts) (app_term f us) h) (symmetric (nest x us two')))

  -- all but the first as one term
  rest_as_one : (ts : List Term) → 1 ≤ length ts → (w : Term) × ((x : Term) → Same (x ∷ ts) (x ∷ w ∷ []))
  rest_as_one [] one = absurd (omega arith)
  rest_as_one (t ∷ []) one = (t, λ x. same_itself (x ∷ t ∷ []))
  rest_as_one (t ∷ u ∷ ts) one = (app_term f (t ∷ u ∷ ts), λ x. nest x (t ∷ u ∷ ts) (two_or_more t u ts))

  -- all but the first two as one term
  three : (ts : List Term) (w x y : Term) → 1 ≤ length ts → ((z : Term) → Same (z ∷ ts) (z ∷ w ∷ [])) → Same (x ∷ y ∷ ts) (x ∷ app_term f (y ∷ w ∷ []) ∷ [])
  three ts w x y one h = let two : 2 ≤ length (y ∷ ts) = omega arith in
      transitive (nest x (y ∷ ts) two) (congruent f (x ∷ []) [] (app_term f (y ∷ ts)) (app_term f (y ∷ w ∷ [])) (h y))

  pub swap_first : (x y : Term) (ts : List Term) → Same (x ∷ y ∷ ts) (y ∷ x ∷ ts)
  swap_first x y [] = commutative f x y ac
  swap_first x y (t ∷ ts) =
      let h : (w : Term) × ((z : Term) → Same (z ∷ t ∷ ts) (z ∷ w ∷ [])) = rest_as_one (t ∷ ts) (one_or_more t ts) in
      transitive (three (t ∷ ts) h.0 x y (one_or_more t ts) h.1)
      (transitive (symmetric (associative f x y h.0 ac))
      (transitive (congruent f [] (h.0 ∷ []) (app_term f (x ∷ y ∷ [])) (app_term f (y ∷ x ∷ [])) (commutative f x y ac))
      (transitive (associative f y x h.0 ac) (symmetric (three (t ∷ ts) h.0 y x (one_or_more t ts) h.1)))))

  -- a node that comes first gives its own arguments in its place
  splice_with : (inner ts : List Term) (w : Term) → 2 ≤ length inner → 1 ≤ length ts → ((z : Term) → Same (z ∷ ts) (z ∷ w ∷ [])) → Same (app_term f inner ∷ ts) (inner ++ ts)
  splice_with [] ts w two one h = absurd (omega arith)
  splice_with (x ∷ []) ts w two one h = absurd (omega arith)
  splice_with (x ∷ y ∷ []) ts w two one h =
      transitive (h (app_term f (x ∷ y ∷ []))) (transitive (associative f x y w ac) (symmetric (three ts w x y one h)))
  splice_with (x ∷ y ∷ z ∷ more) ts w two one h =
      let j : Term = app_term f (y ∷ z ∷ more) in
      let e : length (y ∷ z ∷ more ++ ts) ≡ length (y ∷ z ∷ more) + length ts = length-append (y ∷ z ∷ more) ts in
      transitive (h (app_term f (x ∷ y ∷ z ∷ more)))
      (transitive (congruent f [] (w ∷ []) (app_term f (x ∷ y ∷ z ∷ more)) (app_term f (x ∷ j ∷ [])) (nested f x y z more ac))
      (transitive (associative f x j w ac)
      (transitive (congruent f (x ∷ []) [] (app_term f (j ∷ w ∷ [])) (app_term f (y ∷ z ∷ more ++ ts)) (transitive (symmetric (h j)) (splice_with (y ∷ z ∷ more) ts w (two_or_more y z more) one h)))
      (symmetric (nest x (y ∷ z ∷ more ++ ts) (two_or_more y z (more ++ ts)))))))

  splice_first : (inner ts : List Term) → 2 ≤ length inner → 1 ≤ length ts → Same (app_term f inner ∷ ts) (inner ++ ts)
  splice_first inner ts two one = let h : (w : Term) × ((z : Term) → Same (z ∷ ts) (z ∷ w ∷ [])) = rest_as_one ts one in
      splice_with inner ts h.0 two one h.1

  -- ---- flattening

  -- what is headed by f has at least two arguments there
  abbrev Wide : Term → Type 0
  Wide t = is_headed f t ≡ true → 2 ≤ length (arms_under f t)

  arms_first : (t : Term) (ts : List Term) → Wide t → 1 ≤ length ts → Same (t ∷ ts) (arms_under f t ++ ts)
  arms_first t ts wide one = ⊎_elim
      (λ e. transitive (same_if (t ∷ ts) (app_term f (arms_under f t) ∷ ts) (ap (λ u. u ∷ ts) (headed_is f t e))) (splice_first (arms_under f t) ts (wide e) one))
      (λ e. same_if (t ∷ ts) (arms_under f t ++ ts) (ap (λ us. us ++ ts) (sym (arms-other f t e))))
      (true_or_false (is_headed f t))

  arms_last : (x t : Term) → Wide t → Same (x ∷ t ∷ []) (x ∷ arms_under f t)
  arms_last x t wide = ⊎_elim
      (λ e. transitive (same_if (x ∷ t ∷ []) (x ∷ app_term f (arms_under f t) ∷ []) (ap (λ u. x ∷ u ∷ []) (headed_is f t e))) (symmetric (nest x (arms_under f t) (wide e))))
      (λ e. same_if (x ∷ t ∷ []) (x ∷ arms_under f t) (ap (λ us. x ∷ us) (sym (arms-other f t e))))
      (true_or_false (is_headed f t))

  arms_one : (t : Term) → Wide t → 1 ≤ length (arms_under f t)
  arms_one t wide = ⊎_elim
      (λ e. let two : 2 ≤ length (arms_under f t) = wide e in omega arith)
      (λ e. subst (λ us. 1 ≤ length us) (sym (arms-other f t e)) (omega arith))
      (true_or_false (is_headed f t))

  flat_long : (ts : List Term) → AllOf Wide ts → length ts ≤ length (flat f ts)
  flat_long [] h = omega arith
  flat_long (t ∷ ts) h =
      let one : 1 ≤ length (arms_under f t) = arms_one t h.0 in
      let later : length ts ≤ length (flat f ts) = flat_long ts h.1 in
      let e : length (arms_under f t ++ flat f ts) ≡ length (arms_under f t) + length (flat f ts) = length-append (arms_under f t) (flat f ts) in
      omega arith

  flattens : (ts : List Term) → 2 ≤ length ts → AllOf Wide ts → Same ts (flat f ts)
  flattens [] two h = absurd (omega arith)
  flattens (x ∷ []) two h = absurd (omega arith)
  flattens (x ∷ y ∷ []) two h =
      transitive (arms_last x y h.1.0)
      (transitive (arms_first x (arms_under f y) h.0 (arms_one y h.1.0)) (same_if (arms_under f x ++ arms_under f y) (flat f (x ∷ y ∷ [])) (ap (λ us. arms_under f x ++ us) (sym (append-nil (arms_under f y))))))
  flattens (x ∷ y ∷ z ∷ more) two h =
      let long : length (y ∷ z ∷ more) ≤ length (flat f (y ∷ z ∷ more)) = flat_long (y ∷ z ∷ more) h.1 in
      let two' : 2 ≤ length (flat f (y ∷ z ∷ more)) = omega arith in
      transitive (behind x (y ∷ z ∷ more) (flat f (y ∷ z ∷ more)) (two_or_more y z more) two' (flattens (y ∷ z ∷ more) (two_or_more y z more) h.1))
      (arms_first x (flat f (y ∷ z ∷ more)) h.0 (omega arith))

  -- ---- sorting

  put_in_by : (t u : Term) (us : List Term) (b : Bool) → Same (u ∷ t ∷ us) (u ∷ put_in t us) → Same (t ∷ u ∷ us) (cond b (u ∷ put_in t us) (t ∷ u ∷ us))
  put_in_by t u us true h = transitive (swap_first t u us) h
  put_in_by t u us false h = same_itself (t ∷ u ∷ us)

  put_in_same : (t u : Term) (us : List Term) → Same (t ∷ u ∷ us) (put_in t (u ∷ us))
  put_in_same t u [] = put_in_by t u [] (is_gt (order t u)) (same_itself (u ∷ t ∷ []))
  put_in_same t u (v ∷ us) = put_in_by t u (v ∷ us) (is_gt (order t u))
      (let e : length (put_in t (v ∷ us)) ≡ suc (length (v ∷ us)) = put_in-length t (v ∷ us) in
      behind u (t ∷ v ∷ us) (put_in t (v ∷ us)) (two_or_more t v us) (omega arith) (put_in_same t v us))

  put_in_sorted : (t : Term) (us : List Term) → 1 ≤ length us → Same (t ∷ us) (put_in t us)
  put_in_sorted t [] one = absurd (omega arith)
  put_in_sorted t (u ∷ us) one = put_in_same t u us

  sorts : (ts : List Term) → 2 ≤ length ts → Same ts (ascending ts)
  sorts [] two = absurd (omega arith)
  sorts (x ∷ []) two = absurd (omega arith)
  sorts (x ∷ y ∷ []) two = put_in_same x y []
  sorts (x ∷ y ∷ z ∷ more) two =
      let e : length (ascending (y ∷ z ∷ more)) ≡ length (y ∷ z ∷ more) = ascending-length (y ∷ z ∷ more) in
      transitive (behind x (y ∷ z ∷ more) (ascending (y ∷ z ∷ more)) (two_or_more y z more) (omega arith) (sorts (y ∷ z ∷ more) (two_or_more y z more)))
      (put_in_sorted x (ascending (y ∷ z ∷ more)) (omega arith))

  node_same : (ts : List Term) → 2 ≤ length ts → AllOf Wide ts → EqualModulo shapes (app_term f ts) (node shapes f ts)
  node_same ts two h =
      let long : length ts ≤ length (flat f ts) = flat_long ts h in
      transitive (flattens ts two h) (transitive (sorts (flat f ts) (omega arith)) (reflexive (sym (node-ac shapes f ts ac))))

-- ---- a term is equal to its canonical form

-- under any operator equal arguments make equal terms
all_congruent : (shapes : Shapes) (op : OpId) (front ts : List Term) → AllOf (λ t. EqualModulo shapes t (canon shapes t)) ts → EqualModulo shapes (app_term op (front ++ ts)) (app_term op (front ++ map (canon shapes) ts))
all_congruent shapes op front [] h = reflexive refl
all_congruent shapes op front (t ∷ ts) h =
    transitive (congruent op front ts t (canon shapes t) h.0)
    (transitive (reflexive (ap (app_term op) (sym (append_assoc front (canon shapes t ∷ []) ts))))
    (transitive (all_congruent shapes op (front ++ canon shapes t ∷ []) ts h.1)
    (reflexive (ap (app_term op) (append_assoc front (canon shapes t ∷ []) (map (canon shapes) ts))))))

valid-wide : (shapes : Shapes) (f : OpId) → is_ac shapes f ≡ true → (t : Term) → IsValid shapes t → is_headed f t ≡ true → 2 ≤ length (arms_under f t)
valid-wide shapes f ac t v e = two_arguments shapes f (arms_under f t) ac (subst (IsValid shapes) (headed_is f t e) v)

each_holds : (shapes : Shapes) (ts : List Term) → AllOf (λ t. IsValid shapes t → EqualModulo shapes t (canon shapes t)) ts → AllOf (IsValid shapes) ts → AllOf (λ t. EqualModulo shapes t (canon shapes t)) ts
each_holds shapes [] h k = tt
each_holds shapes (t ∷ ts) h k = (h.0 k.0, each_holds shapes ts h.1 k.1)

application-form : (shapes : Shapes) (op : OpId) (ts : List Term) → IsValid shapes (app_term op ts) → EqualModulo shapes (app_term op (map (canon shapes) ts)) (node shapes op (map (canon shapes) ts))
application-form shapes op ts v = ⊎_elim
    (λ ac. let two : 2 ≤ length ts = two_arguments shapes op ts ac v in
    let e : length (map (canon shapes) ts) ≡ length ts = mapped_length (canon shapes) ts in
    node_same shapes op ac (map (canon shapes) ts) (omega arith)
    (all_mapped (Wide shapes op ac) (canon shapes) ts (all_map (IsValid shapes) (λ t. Wide shapes op ac (canon shapes t)) (λ t w. valid-wide shapes op ac (canon shapes t) (canon-valid shapes t w)) ts (valid_arguments shapes op ts v))))
    (λ plain. reflexive (sym (node-plain shapes op (map (canon shapes) ts) plain)))
    (true_or_false (is_ac shapes op))

pub canon-equal : (shapes : Shapes) (t : Term) → IsValid shapes t → EqualModulo shapes t (canon shapes t)
canon-equal shapes = ind_term (λ t. IsValid shapes t → EqualModulo shapes t (canon shapes t))
    (λ z v. reflexive (sym (canon-of_int shapes z)))
    (λ op ts h v. transitive (all_congruent shapes op [] ts (each_holds shapes ts h (valid_arguments shapes op ts v)))
    (transitive (application-form shapes op ts v) (reflexive (sym (canon-of_app shapes op ts)))))

pub equal-exactly : (shapes : Shapes) (t u : Term) → IsValid shapes t → IsValid shapes u → EqualModulo shapes t u ↔ (canon shapes t ≡ canon shapes u)
equal-exactly shapes t u v w = (
  λ h. equal-canon shapes t u h,
  λ e. transitive (canon-equal shapes t v) (transitive (reflexive e) (symmetric (canon-equal shapes u w))),
)
