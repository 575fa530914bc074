-- Where a pattern is a valid canonical term, valid canonical values of its variables are parts of the term.
use Rattle.std.proofs.Common.{◌≡◌, refl, sym, ap, ◌∙◌, ⊎_elim, inl, inr, subst, ℕ, ◌+◌, ◌≤◌, Bool, true, false, ◌==◌, List, [], ◌∷◌, ◌++◌, map, flat_map, arith}
use Rattle.elan_terms.specs.declared.tree.OpId.{OpId}
use Rattle.elan_terms.specs.declared.tree.SortId.{SortId}
use Rattle.elan_terms.specs.declared.tree.Term.{Term}
use Rattle.elan_terms.specs.declared.tree.Pattern.{Pattern}
use Rattle.elan_terms.specs.declared.tree.Shapes.{Shapes}
use Rattle.elan_terms.specs.Trees.{app_term}
use Rattle.elan_terms.specs.Term.{is_ac, arms_under, ascending}
use Rattle.elan_terms.specs.Match.{occurrences, instance}
use Rattle.elan_terms.specs.Ascending.{NotAfter}
use Rattle.elan_terms.specs.Canonical.{is_headed, IsSettled, IsCanonical}
use Rattle.elan_terms.specs.Valid.{IsValid}
use Rattle.elan_terms.proofs.Lists.{AllOf, In, contains_of_in, in_all, all_in, all_map, all_flat}
use Rattle.elan_terms.proofs.NodeLemmas.{two_arguments, valid_arguments}
use Rattle.elan_laws.specs.Parts.{SomeOf, IsPart, whole, inside, some, times}
use Rattle.elan_laws.proofs.TimesLaws.{some-exactly}
use Rattle.elan_laws.proofs.CanonicalLaws.{canonical_app, headed_is, arms-other, true_or_false}
use Rattle.elan_arms.specs.Arms.{app_pattern, arms, times_brought}
use Rattle.elan_arms.specs.Values.{IsProper}
use Rattle.elan_arms.proofs.Times.{one_if, times-cons, one_if-same, times_in}
use Rattle.elan_arms.proofs.Patterns.{var_pattern, int_pattern, ind_pattern, occurrences-of_var, occurrences-of_int, occurrences-of_app, instance-of_var, one_operator}
use Rattle.elan_arms.proofs.Nodes.{all_arms, instance-ac, arguments-times, nested-times, instance-headed}
use Rattle.elan_arms.proofs.Places.{instance-plain}
use Rattle.elan_arms.proofs.Agreement.{all_each}
use Rattle.elan_terms.proofs.OrderLemmas.{equal-same}

-- arguments of a valid canonical term are so
pub proper_arguments : (shapes : Shapes) (op : OpId) (ts : List Term) → IsProper shapes (app_term op ts) → AllOf (IsProper shapes) ts
proper_arguments shapes op ts h = both ts (valid_arguments shapes op ts h.valid) (canonical_app shapes op ts h.canonical).1
  where
    both : (us : List Term) → AllOf (IsValid shapes) us → AllOf (IsCanonical shapes) us → AllOf (IsProper shapes) us
    both [] v c = tt
    both (u ∷ us) v c = (record { valid = v.0; canonical = c.0 }, both us v.1 c.1)

pub proper_ascends : (shapes : Shapes) (op : OpId) (ts : List Term) → is_ac shapes op ≡ true → IsProper shapes (app_term op ts) → IsSettled shapes op ts
proper_ascends shapes op ts ac h = (canonical_app shapes op ts h.canonical).0

module _ (shapes : Shapes) (value : ℕ → Term) where
  -- the variable's value is a part of the term
  abbrev InTerm : Term → ℕ × SortId → Type 0
  InTerm t v = IsPart shapes (value v.0) t

  abbrev Proper : ℕ × SortId → Type 0
  Proper v = IsProper shapes (value v.0)

  -- what holds of a pattern that is a whole term, and of one whose terms are among the arguments of a node
  record Parts (p : Pattern) : Type 0 where
    is_whole : (t : Term) → IsProper shapes t → AllOf Proper (occurrences p) → instance shapes value p ≡ t → AllOf (InTerm t) (occurrences p)
    is_among : (op : OpId) (ts : List Term) → is_ac shapes op ≡ true → IsProper shapes (app_term op ts) → AllOf Proper (occurrences p)
        → ((u : Term) → times u (arms shapes value op p) ≤ times u ts) → AllOf (InTerm (app_term op ts)) (occurrences p)

  -- ---- one term among the arguments

  one_among : (t : Term) (ts : List Term) → ((u : Term) → times u (t ∷ []) ≤ times u ts) → In t ts
  one_among t ts le =
      let here : times t (t ∷ []) ≤ times t ts = le t in
      let mine : one_if t t ≡ 1 = one_if-same t t (equal-same t t refl) in
      times_in t ts (omega (arith, times-cons t t []))

  value-among : (op : OpId) (ts : List Term) (u : Term) → is_ac shapes op ≡ true → IsProper shapes (app_term op ts) → IsProper shapes u
      → ((t : Term) → times t (arms_under op u) ≤ times t ts) → IsPart shapes u (app_term op ts)
  value-among op ts u ac h k le = ⊎_elim
      (λ e.
      let us : List Term = arms_under op u in
      let own : IsProper shapes (app_term op us) = subst (IsProper shapes) (headed_is op u e) k in
      let s : SomeOf us ts = (some-exactly us ts (proper_ascends shapes op ts ac h ac).1).1 ((proper_ascends shapes op us ac own ac).1, le) in
      some op ts us ac s (two_arguments shapes op us ac own.valid) (headed_is op u e))
      (λ e. inside op ts u (contains_of_in ts u (one_among u ts (subst (λ us. (t : Term) → times t us ≤ times t ts) (arms-other op u e) le))) (whole refl))
      (true_or_false (is_headed op u))

  -- ---- the patterns under an operator

  brought-one : (op : OpId) (u : Term) (ps : List Pattern) → AllOf (λ p. times u (arms shapes value op p) ≤ times_brought shapes value op u ps) ps
  brought-one op u [] = tt
  brought-one op u (p ∷ ps) = (
    omega arith,
    all_map (λ q. times u (arms shapes value op q) ≤ times_brought shapes value op u ps) (λ q. times u (arms shapes value op q) ≤ times_brought shapes value op u (p ∷ ps))
        (λ q le. let few : times u (arms shapes value op q) ≤ times_brought shapes value op u ps = le in omega arith) ps (brought-one op u ps),
  )

  all_among : (op : OpId) (ts : List Term) (ps : List Pattern) → is_ac shapes op ≡ true → IsProper shapes (app_term op ts) → ((u : Term) → times_brought shapes value op u ps ≤ times u ts)
      → AllOf Parts ps → AllOf (λ p. AllOf Proper (occurrences p)) ps → AllOf (λ p. AllOf (InTerm (app_term op ts)) (occurrences p)) ps
  all_among op ts [] ac h le parts k = tt
  all_among op ts (p ∷ ps) ac h le parts k = (
    parts.0.is_among op ts ac h k.0 (λ u. let all : times_brought shapes value op u (p ∷ ps) ≤ times u ts = le u in omega arith),
    all_among op ts ps ac h (λ u. let all : times_brought shapes value op u (p ∷ ps) ≤ times u ts = le u in omega arith) parts.1 k.1,
  )

  all_in_places : (op : OpId) (ts : List Term) (ps : List Pattern) → IsProper shapes (app_term op ts) → AllOf (λ p. In (instance shapes value p) ts) ps
      → AllOf Parts ps → AllOf (λ p. AllOf Proper (occurrences p)) ps → AllOf (λ p. AllOf (InTerm (app_term op ts)) (occurrences p)) ps
  all_in_places op ts [] h i parts k = tt
  all_in_places op ts (p ∷ ps) h i parts k = (one_inside op ts p h i.0 parts.0 k.0, all_in_places op ts ps h i.1 parts.1 k.1)
    where
      one_inside : (g : OpId) (us : List Term) (q : Pattern) → IsProper shapes (app_term g us) → In (instance shapes value q) us → Parts q → AllOf Proper (occurrences q) → AllOf (InTerm (app_term g us)) (occurrences q)
      one_inside g us q l j part m =
          let t : Term = instance shapes value q in
          all_map (InTerm t) (InTerm (app_term g us)) (λ v n. inside g us t (contains_of_in us t j) n) (occurrences q)
          (part.is_whole t (in_all (IsProper shapes) us t (proper_arguments shapes g us l) j) m refl)

  images_in : (ps : List Pattern) → AllOf (λ p. In (instance shapes value p) (map (instance shapes value) ps)) ps
  images_in [] = tt
  images_in (p ∷ ps) = (inl refl, all_map (λ q. In (instance shapes value q) (map (instance shapes value) ps)) (λ q. In (instance shapes value q) (map (instance shapes value) (p ∷ ps))) (λ q i. inr i) ps (images_in ps))

  -- ---- by cases

  module _ (op : OpId) (ps : List Pattern) (parts : AllOf Parts ps) where
    each_proper : AllOf Proper (occurrences (app_pattern op ps)) → AllOf (λ p. AllOf Proper (occurrences p)) ps
    each_proper k = all_each Proper occurrences ps (subst (AllOf Proper) (occurrences-of_app op ps) k)

    all_proper : (t : Term) → AllOf (λ p. AllOf (InTerm t) (occurrences p)) ps → AllOf (InTerm t) (occurrences (app_pattern op ps))
    all_proper t h = subst (AllOf (InTerm t)) (sym (occurrences-of_app op ps)) (all_flat (InTerm t) occurrences ps h)

    app_whole : (t : Term) → IsProper shapes t → AllOf Proper (occurrences (app_pattern op ps)) → instance shapes value (app_pattern op ps) ≡ t → AllOf (InTerm t) (occurrences (app_pattern op ps))
    app_whole t h k e = ⊎_elim
        (λ ac.
        let ts : List Term = ascending (all_arms shapes value op ps) in
        let is : t ≡ app_term op ts = sym e ∙ instance-ac shapes value op ac ps in
        subst (λ u. AllOf (InTerm u) (occurrences (app_pattern op ps))) (sym is)
        (all_proper (app_term op ts) (all_among op ts ps ac (subst (IsProper shapes) is h)
        (λ u. let same : times u ts ≡ times_brought shapes value op u ps = arguments-times shapes value op ac ps ts (instance-ac shapes value op ac ps) u in omega arith)
        parts (each_proper k))))
        (λ plain.
        let ts : List Term = map (instance shapes value) ps in
        let is : t ≡ app_term op ts = sym e ∙ instance-plain shapes value op ps plain in
        subst (λ u. AllOf (InTerm u) (occurrences (app_pattern op ps))) (sym is)
        (all_proper (app_term op ts) (all_in_places op ts ps (subst (IsProper shapes) is h) (images_in ps) parts (each_proper k))))
        (true_or_false (is_ac shapes op))

    app_among : (f : OpId) (ts : List Term) → is_ac shapes f ≡ true → IsProper shapes (app_term f ts) → AllOf Proper (occurrences (app_pattern op ps))
        → ((u : Term) → times u (arms shapes value f (app_pattern op ps)) ≤ times u ts) → AllOf (InTerm (app_term f ts)) (occurrences (app_pattern op ps))
    app_among f ts ac h k le = ⊎_elim
        (λ same.
        let one : f ≡ op = one_operator f op same in
        all_proper (app_term f ts) (all_among f ts ps ac h
        (λ u. let here : times u (arms shapes value f (app_pattern op ps)) ≤ times u ts = le u in
        let nested : times u (arms shapes value f (app_pattern op ps)) ≡ times_brought shapes value f u ps
        = ap (λ g. times u (arms shapes value f (app_pattern g ps))) (sym one) ∙ nested-times shapes value f ac u ps in omega arith)
        parts (each_proper k)))
        (λ other.
        let t : Term = instance shapes value (app_pattern op ps) in
        let own : arms shapes value f (app_pattern op ps) ≡ t ∷ [] = arms-other f t (instance-headed shapes value f op ps ∙ other) in
        let i : In t ts = one_among t ts (subst (λ us. (u : Term) → times u us ≤ times u ts) own le) in
        all_map (InTerm t) (InTerm (app_term f ts)) (λ v n. inside f ts t (contains_of_in ts t i) n) (occurrences (app_pattern op ps))
        (app_whole t (in_all (IsProper shapes) ts t (proper_arguments shapes f ts h) i) k refl))
        (true_or_false (f.0 == op.0))

  parts_of : (p : Pattern) → Parts p
  parts_of = ind_pattern Parts
      (λ x s. record {
        is_whole = λ t h k e. subst (AllOf (InTerm t)) (sym (occurrences-of_var x s)) (whole (sym (instance-of_var shapes value x s) ∙ e), tt);
        is_among = λ op ts ac h k le. subst (AllOf (InTerm (app_term op ts))) (sym (occurrences-of_var x s))
            (value-among op ts (value x) ac h (subst (AllOf Proper) (occurrences-of_var x s) k).0 (subst (λ u. (t : Term) → times t (arms_under op u) ≤ times t ts) (instance-of_var shapes value x s) le), tt);
      })
      (λ z. record {
        is_whole = λ t h k e. subst (AllOf (InTerm t)) (sym (occurrences-of_int z)) tt;
        is_among = λ op ts ac h k le. subst (AllOf (InTerm (app_term op ts))) (sym (occurrences-of_int z)) tt;
      })
      (λ op ps h. record { is_whole = app_whole op ps h; is_among = app_among op ps h })

  pub values-parts : (p : Pattern) (t : Term) → IsProper shapes t → AllOf (λ v. IsProper shapes (value v.0)) (occurrences p) → instance shapes value p ≡ t
      → AllOf (λ v. IsPart shapes (value v.0) t) (occurrences p)
  values-parts p t h k e = (parts_of p).is_whole t h k e
