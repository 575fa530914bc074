-- `canon` gives the canonical form, and changes no term that has it already.
use Rattle.std.proofs.Common.{◌≡◌, refl, sym, ap, ◌∙◌, ◌⊎◌, inl, inr, ⊎_elim, subst, suc, ◌+◌, ◌≤◌, Bool, true, false, cond, ◌==◌, eqb-true, eq-eqb, ℕ, ℤ, Option, Some, None, List, [], ◌∷◌, ◌++◌, map, length, slice_get, MatchBool, All, flat_map, length-append, arith}
use Rattle.std.specs.List.{AllZip}
use Rattle.elan_terms.specs.declared.tree.OpId.{OpId}
use Rattle.elan_terms.specs.declared.tree.SortId.{SortId}
use Rattle.elan_terms.specs.declared.tree.Term.{Term}
use Rattle.elan_terms.specs.declared.tree.Shape.{Shape}
use Rattle.elan_terms.specs.declared.tree.Shapes.{Shapes}
use Rattle.elan_terms.specs.Trees.{int_term, app_term}
use Rattle.elan_terms.specs.Term.{sort_of, shape_sort, ascending, is_ac, shape_ac, arms_under, node, canon}
use Rattle.elan_terms.proofs.TreeLemmas.{case_term-app}
use Rattle.elan_terms.proofs.TermLemmas.{arms-int, arms-app, canon-int, canon-app}
use Rattle.elan_terms.proofs.MatchLemmas.{sort_of-app}
use Rattle.elan_terms.specs.Valid.{HasSort, IsNumber, MayTake, IsAllowed, IsValid}
use Rattle.elan_terms.specs.Ascending.{NotAfter}
use Rattle.elan_terms.specs.Canonical.{is_headed, IsSettled, IsCanonical}
use Rattle.elan_terms.proofs.Lists.{AllOf, all_of, all_from, pairs_of, pairs_from, all_both, all_append, all_map, all_flat, all_mapped, mapped_itself}
use Rattle.elan_terms.proofs.Induction.{ind_term, cases_term}
use Rattle.elan_terms.proofs.NodeLemmas.{throughout_app, app_throughout, match_true, match_false}
use Rattle.elan_terms.proofs.Sorting.{not_true, ascending-pairs, ascending-all, ascending-length, ascending-itself}

-- ---- the equations

pub canonical_app : (shapes : Shapes) (op : OpId) (ts : List Term) → IsCanonical shapes (app_term op ts) → IsSettled shapes op ts × AllOf (IsCanonical shapes) ts
canonical_app shapes op ts h = throughout_app (λ _. Unit {0}) (IsSettled shapes) op ts h

pub app_canonical : (shapes : Shapes) (op : OpId) (ts : List Term) → IsSettled shapes op ts → AllOf (IsCanonical shapes) ts → IsCanonical shapes (app_term op ts)
app_canonical shapes op ts h k = app_throughout (λ _. Unit {0}) (IsSettled shapes) op ts h k

pub canon-of_app : (shapes : Shapes) (op : OpId) (ts : List Term) → canon shapes (app_term op ts) ≡ node shapes op (map (canon shapes) ts)
canon-of_app shapes op ts = canon-app shapes (app_term op ts) op ts refl

pub canon-of_int : (shapes : Shapes) (z : ℤ) → canon shapes (int_term z) ≡ int_term z
canon-of_int shapes z = canon-int shapes (int_term z) z refl

pub node-ac : (shapes : Shapes) (op : OpId) (ts : List Term) → is_ac shapes op ≡ true → node shapes op ts ≡ app_term op (ascending (flat_map (arms_under op) ts))
unfolding node
node-ac shapes op ts e = ap (λ b. app_term op (cond b (ascending (flat_map (arms_under op) ts)) ts)) e

pub node-plain : (shapes : Shapes) (op : OpId) (ts : List Term) → is_ac shapes op ≡ false → node shapes op ts ≡ app_term op ts
unfolding node
node-plain shapes op ts e = ap (λ b. app_term op (cond b (ascending (flat_map (arms_under op) ts)) ts)) e

pub headed-app : (op f : OpId) (ts : List Term) → is_headed op (app_term f ts) ≡ (op.0 == f.0)
headed-app op f ts = case_term-app (λ _. false) (λ g _. op.0 == g.0) f ts

-- a Bool is one of the two
pub true_or_false : (b : Bool) → (b ≡ true) ⊎ (b ≡ false)
true_or_false true = inl refl
true_or_false false = inr refl

pub arms-other : (op : OpId) (t : Term) → is_headed op t ≡ false → arms_under op t ≡ t ∷ []
arms-other op = cases_term (λ t. is_headed op t ≡ false → arms_under op t ≡ t ∷ [])
    (λ z e. arms-int op (int_term z) z refl)
    (λ f ts e. arms-app op (app_term f ts) f ts refl ∙ ap (λ b. cond b ts (app_term f ts ∷ [])) (sym (headed-app op f ts) ∙ e))

-- a term that is headed by an operator is it over its arguments under it
pub arms-same : (op : OpId) (ts : List Term) → arms_under op (app_term op ts) ≡ ts
arms-same op ts = arms-app op (app_term op ts) op ts refl ∙ ap (λ b. cond b ts (app_term op ts ∷ [])) (itself op.0)
  where
    itself : (n : ℕ) → (n == n) ≡ true
    itself n = eq-eqb n n refl

pub headed_is : (op : OpId) (t : Term) → is_headed op t ≡ true → t ≡ app_term op (arms_under op t)
headed_is op = cases_term (λ t. is_headed op t ≡ true → t ≡ app_term op (arms_under op t))
    (λ z e. not_true (sym e))
    (λ f ts e. let n : op.0 ≡ f.0 = eqb-true op.0 f.0 (sym (headed-app op f ts) ∙ e) in
    ap (λ (i : ℕ). app_term (record { 0 = i }) ts) (sym n)
    ∙ sym (ap (app_term op) (arms-app op (app_term f ts) f ts refl ∙ ap (λ b. cond b ts (app_term f ts ∷ [])) (sym (headed-app op f ts) ∙ e))))

-- ---- the canonical form is canonical

-- not headed by the operator
abbrev Other : OpId → Term → Type 0
Other op t = is_headed op t ≡ false

arms-canonical : (shapes : Shapes) (op : OpId) → is_ac shapes op ≡ true → (t : Term) → IsCanonical shapes t → AllOf (λ u. Other op u × IsCanonical shapes u) (arms_under op t)
arms-canonical shapes op ac t h = ⊎_elim
    (λ e. let k : IsSettled shapes op (arms_under op t) × AllOf (IsCanonical shapes) (arms_under op t) = canonical_app shapes op (arms_under op t) (subst (IsCanonical shapes) (headed_is op t e) h) in
    all_both (Other op) (IsCanonical shapes) (arms_under op t) (all_of (Other op) (arms_under op t) (k.0 ac).0) k.1)
    (λ e. subst (AllOf (λ u. Other op u × IsCanonical shapes u)) (sym (arms-other op t e)) ((e, h), tt))
    (true_or_false (is_headed op t))

node-canonical : (shapes : Shapes) (op : OpId) (ts : List Term) → AllOf (IsCanonical shapes) ts → IsCanonical shapes (node shapes op ts)
node-canonical shapes op ts h = ⊎_elim
    (λ ac. let args : List Term = ascending (flat_map (arms_under op) ts) in
    let all : AllOf (λ u. Other op u × IsCanonical shapes u) args =
    ascending-all (λ u. Other op u × IsCanonical shapes u) (flat_map (arms_under op) ts)
    (all_flat (λ u. Other op u × IsCanonical shapes u) (arms_under op) ts (all_map (IsCanonical shapes) (λ t. AllOf (λ u. Other op u × IsCanonical shapes u) (arms_under op t)) (arms-canonical shapes op ac) ts h)) in
    subst (IsCanonical shapes) (sym (node-ac shapes op ts ac))
    (app_canonical shapes op args
    (λ _. (all_from (Other op) args (all_map (λ u. Other op u × IsCanonical shapes u) (Other op) (λ u k. k.0) args all), pairs_from NotAfter args (ascending-pairs (flat_map (arms_under op) ts))))
    (all_map (λ u. Other op u × IsCanonical shapes u) (IsCanonical shapes) (λ u k. k.1) args all)))
    (λ plain. subst (IsCanonical shapes) (sym (node-plain shapes op ts plain)) (app_canonical shapes op ts (λ ac. not_true (sym ac ∙ plain)) h))
    (true_or_false (is_ac shapes op))

pub canon-canonical : (shapes : Shapes) (t : Term) → IsCanonical shapes (canon shapes t)
canon-canonical shapes = ind_term (λ t. IsCanonical shapes (canon shapes t))
    (λ z. subst (IsCanonical shapes) (sym (canon-of_int shapes z)) tt)
    (λ op ts h. subst (IsCanonical shapes) (sym (canon-of_app shapes op ts)) (node-canonical shapes op (map (canon shapes) ts) (all_mapped (IsCanonical shapes) (canon shapes) ts h)))

-- ---- a canonical term is its own canonical form

no_arms : (op : OpId) (ts : List Term) → AllOf (Other op) ts → flat_map (arms_under op) ts ≡ ts
no_arms op [] h = refl
no_arms op (t ∷ ts) h = ap (λ us. us ++ flat_map (arms_under op) ts) (arms-other op t h.0) ∙ ap (λ us. t ∷ us) (no_arms op ts h.1)

pub node-itself : (shapes : Shapes) (op : OpId) (ts : List Term) → IsSettled shapes op ts → node shapes op ts ≡ app_term op ts
node-itself shapes op ts h = ⊎_elim
    (λ ac. node-ac shapes op ts ac ∙ ap (λ us. app_term op (ascending us)) (no_arms op ts (all_of (Other op) ts (h ac).0)) ∙ ap (app_term op) (ascending-itself ts (pairs_of NotAfter ts (h ac).1)))
    (λ plain. node-plain shapes op ts plain)
    (true_or_false (is_ac shapes op))

both_hold : (shapes : Shapes) (ts : List Term) → AllOf (λ t. IsCanonical shapes t → canon shapes t ≡ t) ts → AllOf (IsCanonical shapes) ts → AllOf (λ t. canon shapes t ≡ t) ts
both_hold shapes [] h k = tt
both_hold shapes (t ∷ ts) h k = (h.0 k.0, both_hold shapes ts h.1 k.1)

pub canonical-canon : (shapes : Shapes) (t : Term) → IsCanonical shapes t → canon shapes t ≡ t
canonical-canon shapes = ind_term (λ t. IsCanonical shapes t → canon shapes t ≡ t)
    (λ z h. canon-of_int shapes z)
    (λ op ts h c. let k : IsSettled shapes op ts × AllOf (IsCanonical shapes) ts = canonical_app shapes op ts c in
    canon-of_app shapes op ts ∙ ap (node shapes op) (mapped_itself (canon shapes) ts (both_hold shapes ts h k.1)) ∙ node-itself shapes op ts k.0)

pub canon-idempotent : (shapes : Shapes) (t : Term) → canon shapes (canon shapes t) ≡ canon shapes t
canon-idempotent shapes t = canonical-canon shapes (canon shapes t) (canon-canonical shapes t)

-- ---- its sort

pub sort-of_app : (shapes : Shapes) (op : OpId) (ts : List Term) → sort_of shapes (app_term op ts) ≡ shape_sort (slice_get shapes.shapes op.0)
sort-of_app shapes op ts = sort_of-app shapes (app_term op ts) op ts refl

-- a node has its operator's sort
pub node-sort : (shapes : Shapes) (op : OpId) (ts : List Term) → sort_of shapes (node shapes op ts) ≡ shape_sort (slice_get shapes.shapes op.0)
unfolding node
node-sort shapes op ts = sort-of_app shapes op _

pub canon-sort : (shapes : Shapes) (t : Term) → sort_of shapes (canon shapes t) ≡ sort_of shapes t
canon-sort shapes = cases_term (λ t. sort_of shapes (canon shapes t) ≡ sort_of shapes t)
    (λ z. ap (sort_of shapes) (canon-of_int shapes z))
    (λ op ts. ap (sort_of shapes) (canon-of_app shapes op ts) ∙ node-sort shapes op (map (canon shapes) ts) ∙ sym (sort-of_app shapes op ts))

-- ---- its validity

-- what an associative and commutative operator takes: at least two arguments, all of its own sort
pub record TakesAlike (shapes : Shapes) (o : Option Shape) (ts : List Term) : Type 0 where
  pub sort : SortId
  pub own : shape_sort o ≡ Some sort
  pub two : 2 ≤ length ts
  pub alike : AllOf (λ t. HasSort shapes t sort) ts

takes_alike : (shapes : Shapes) (o : Option Shape) (ts : List Term) → shape_ac o ≡ true → MayTake shapes o ts → TakesAlike shapes o ts
takes_alike shapes None ts ac h = absurd h
takes_alike shapes (Some shape) ts ac h =
    let k : (2 ≤ length ts) × All (λ t. HasSort shapes t shape.sort) ts = match_true shape.ac _ _ ac h in
    record { sort = shape.sort; own = refl; two = k.0; alike = all_of (λ t. HasSort shapes t shape.sort) ts k.1 }

pub at_true : (b : Bool) (P Q : Type 0) → b ≡ true → P → MatchBool b P Q
at_true true P Q e p = p
at_true false P Q e p = not_true (sym e)

pub at_false : (b : Bool) (P Q : Type 0) → b ≡ false → Q → MatchBool b P Q
at_false true P Q e q = not_true e
at_false false P Q e q = q

alike_takes : (shapes : Shapes) (o : Option Shape) (ts : List Term) (s : SortId) → shape_ac o ≡ true → shape_sort o ≡ Some s → 2 ≤ length ts → AllOf (λ t. HasSort shapes t s) ts → MayTake shapes o ts
alike_takes shapes None ts s ac own two h = not_true (sym ac)
alike_takes shapes (Some shape) ts s ac own two h =
    at_true shape.ac _ _ ac (two, all_from (λ t. HasSort shapes t shape.sort) ts (all_map (λ t. HasSort shapes t s) (λ t. HasSort shapes t shape.sort) (λ t e. e ∙ sym own) ts h))

zip_mapped : (shapes : Shapes) (f : Term → Term) (ts : List Term) (ss : List SortId) → ((t : Term) → sort_of shapes (f t) ≡ sort_of shapes t) → AllZip (HasSort shapes) ts ss → AllZip (HasSort shapes) (map f ts) ss
zip_mapped shapes f [] ss keeps h = h
zip_mapped shapes f (t ∷ ts) [] keeps h = h
zip_mapped shapes f (t ∷ ts) (s ∷ ss) keeps h = (keeps t ∙ h.0, zip_mapped shapes f ts ss keeps h.1)

plain_takes : (shapes : Shapes) (o : Option Shape) (f : Term → Term) (ts : List Term) → shape_ac o ≡ false → ((t : Term) → sort_of shapes (f t) ≡ sort_of shapes t) → MayTake shapes o ts → MayTake shapes o (map f ts)
plain_takes shapes None f ts plain keeps h = h
plain_takes shapes (Some shape) f ts plain keeps h =
    at_false shape.ac _ _ plain (zip_mapped shapes f ts shape.args keeps (match_false shape.ac _ _ plain h))

pub valid_app : (shapes : Shapes) (op : OpId) (ts : List Term) → IsValid shapes (app_term op ts) → IsAllowed shapes op ts × AllOf (IsValid shapes) ts
valid_app shapes op ts h = throughout_app (IsNumber shapes) (IsAllowed shapes) op ts h

pub app_valid : (shapes : Shapes) (op : OpId) (ts : List Term) → IsAllowed shapes op ts → AllOf (IsValid shapes) ts → IsValid shapes (app_term op ts)
app_valid shapes op ts h k = app_throughout (IsNumber shapes) (IsAllowed shapes) op ts h k

pub ac_takes : (shapes : Shapes) (op : OpId) (ts : List Term) → is_ac shapes op ≡ true → IsAllowed shapes op ts → TakesAlike shapes (slice_get shapes.shapes op.0) ts
unfolding is_ac
ac_takes shapes op ts ac h = takes_alike shapes (slice_get shapes.shapes op.0) ts ac h

pub takes_ac : (shapes : Shapes) (op : OpId) (ts : List Term) (s : SortId) → is_ac shapes op ≡ true → shape_sort (slice_get shapes.shapes op.0) ≡ Some s → 2 ≤ length ts → AllOf (λ t. HasSort shapes t s) ts → IsAllowed shapes op ts
unfolding is_ac
takes_ac shapes op ts s ac own two h = alike_takes shapes (slice_get shapes.shapes op.0) ts s ac own two h

takes_plain : (shapes : Shapes) (op : OpId) (f : Term → Term) (ts : List Term) → is_ac shapes op ≡ false → ((t : Term) → sort_of shapes (f t) ≡ sort_of shapes t) → IsAllowed shapes op ts → IsAllowed shapes op (map f ts)
unfolding is_ac
takes_plain shapes op f ts plain keeps h = plain_takes shapes (slice_get shapes.shapes op.0) f ts plain keeps h

-- a valid term of this sort
record Fitting (shapes : Shapes) (s : SortId) (t : Term) : Type 0 where
  valid : IsValid shapes t
  sorted : HasSort shapes t s

module _ (shapes : Shapes) (s : SortId) where
  fitting_all : (ts : List Term) → AllOf (IsValid shapes) ts → AllOf (λ t. HasSort shapes t s) ts → AllOf (Fitting shapes s) ts
  fitting_all [] h k = tt
  fitting_all (t ∷ ts) h k = (record { valid = h.0; sorted = k.0 }, fitting_all ts h.1 k.1)

  -- at least one, all valid and of the sort
  abbrev Brings : List Term → Type 0
  Brings us = (1 ≤ length us) × AllOf (Fitting shapes s) us

module _ (shapes : Shapes) (op : OpId) (s : SortId) (ac : is_ac shapes op ≡ true) (own : shape_sort (slice_get shapes.shapes op.0) ≡ Some s) where
  alike-brings : (us : List Term) → TakesAlike shapes (slice_get shapes.shapes op.0) us → AllOf (IsValid shapes) us → Brings shapes s us
  alike-brings us k v = let two : 2 ≤ length us = k.two in
      (omega arith, fitting_all shapes s us v (all_map (λ u. HasSort shapes u k.sort) (λ u. HasSort shapes u s) (λ u e. e ∙ sym k.own ∙ own) us k.alike))

  application-brings : (us : List Term) → IsValid shapes (app_term op us) → Brings shapes s us
  application-brings us v = let k : IsAllowed shapes op us × AllOf (IsValid shapes) us = valid_app shapes op us v in
      alike-brings us (ac_takes shapes op us ac k.0) k.1

  -- what an argument brings
  arms-bring : (t : Term) → Fitting shapes s t → Brings shapes s (arms_under op t)
  arms-bring t h = ⊎_elim
      (λ e. application-brings (arms_under op t) (subst (IsValid shapes) (headed_is op t e) h.valid))
      (λ e. subst (Brings shapes s) (sym (arms-other op t e)) (omega arith, (h, tt)))
      (true_or_false (is_headed op t))

  flat-bring : (ts : List Term) → AllOf (Fitting shapes s) ts → (length ts ≤ length (flat_map (arms_under op) ts)) × AllOf (Fitting shapes s) (flat_map (arms_under op) ts)
  flat-bring [] h = (omega arith, tt)
  flat-bring (t ∷ ts) h =
      let k : Brings shapes s (arms_under op t) = arms-bring t h.0 in
      let l : (length ts ≤ length (flat_map (arms_under op) ts)) × AllOf (Fitting shapes s) (flat_map (arms_under op) ts) = flat-bring ts h.1 in
      let e : length (arms_under op t ++ flat_map (arms_under op) ts) ≡ length (arms_under op t) + length (flat_map (arms_under op) ts) = length-append (arms_under op t) (flat_map (arms_under op) ts) in
      (omega arith, all_append (Fitting shapes s) (arms_under op t) (flat_map (arms_under op) ts) k.1 l.1)

  node-fitting : (ts : List Term) → 2 ≤ length ts → AllOf (Fitting shapes s) ts → IsValid shapes (node shapes op ts)
  node-fitting ts two h =
      let flat : List Term = flat_map (arms_under op) ts in
      let k : (length ts ≤ length flat) × AllOf (Fitting shapes s) flat = flat-bring ts h in
      let many : length (ascending flat) ≡ length flat = ascending-length flat in
      let all : AllOf (Fitting shapes s) (ascending flat) = ascending-all (Fitting shapes s) flat k.1 in
      subst (IsValid shapes) (sym (node-ac shapes op ts ac))
      (app_valid shapes op (ascending flat)
      (takes_ac shapes op (ascending flat) s ac own (omega arith) (all_map (Fitting shapes s) (λ t. HasSort shapes t s) (λ t f. f.sorted) (ascending flat) all))
      (all_map (Fitting shapes s) (IsValid shapes) (λ t f. f.valid) (ascending flat) all))

pub mapped_length : {X Y : Type 0} (f : X → Y) (xs : List X) → length (map f xs) ≡ length xs
mapped_length f [] = refl
mapped_length f (x ∷ xs) = ap suc (mapped_length f xs)

canon-fitting : (shapes : Shapes) (s : SortId) (ts : List Term) → AllOf (λ t. IsValid shapes (canon shapes t)) ts → AllOf (λ t. HasSort shapes t s) ts → AllOf (Fitting shapes s) (map (canon shapes) ts)
canon-fitting shapes s [] h k = tt
canon-fitting shapes s (t ∷ ts) h k = (record { valid = h.0; sorted = canon-sort shapes t ∙ k.0 }, canon-fitting shapes s ts h.1 k.1)

canon-of_alike : (shapes : Shapes) (op : OpId) (ts : List Term) → is_ac shapes op ≡ true → TakesAlike shapes (slice_get shapes.shapes op.0) ts → AllOf (λ t. IsValid shapes (canon shapes t)) ts → IsValid shapes (node shapes op (map (canon shapes) ts))
canon-of_alike shapes op ts ac k h =
    node-fitting shapes op k.sort ac k.own (map (canon shapes) ts) (subst (λ n. 2 ≤ n) (sym (mapped_length (canon shapes) ts)) k.two) (canon-fitting shapes k.sort ts h k.alike)

valid_each : (shapes : Shapes) (ts : List Term) → AllOf (λ t. IsValid shapes t → IsValid shapes (canon shapes t)) ts → AllOf (IsValid shapes) ts → AllOf (λ t. IsValid shapes (canon shapes t)) ts
valid_each shapes [] h k = tt
valid_each shapes (t ∷ ts) h k = (h.0 k.0, valid_each shapes ts h.1 k.1)

pub canon-valid : (shapes : Shapes) (t : Term) → IsValid shapes t → IsValid shapes (canon shapes t)
canon-valid shapes = ind_term (λ t. IsValid shapes t → IsValid shapes (canon shapes t))
    (λ z v. subst (IsValid shapes) (sym (canon-of_int shapes z)) v)
    (λ op ts h v.
    let k : IsAllowed shapes op ts × AllOf (IsValid shapes) ts = valid_app shapes op ts v in
    let each : AllOf (λ t. IsValid shapes (canon shapes t)) ts = valid_each shapes ts h k.1 in
    subst (IsValid shapes) (sym (canon-of_app shapes op ts)) (⊎_elim
    (λ ac. canon-of_alike shapes op ts ac (ac_takes shapes op ts ac k.0) each)
    (λ plain. subst (IsValid shapes) (sym (node-plain shapes op (map (canon shapes) ts) plain))
    (app_valid shapes op (map (canon shapes) ts) (takes_plain shapes op (canon shapes) ts plain (canon-sort shapes) k.0) (all_mapped (IsValid shapes) (canon shapes) ts each)))
    (true_or_false (is_ac shapes op))))
