-- Only the values of the variables that occur count; the variables are what occurs, each number once.
use Rattle.std.proofs.Common.{◌≡◌, refl, sym, ap, ◌∙◌, ◌⊎◌, inl, inr, ⊎_elim, ◌||◌, subst, ℕ, Bool, true, false, cond, ◌==◌, eqb-true, List, [], ◌∷◌, ◌++◌, map, flat_map, arith}
use Rattle.std.specs.List.{list_any}
use Rattle.elan_terms.specs.declared.tree.OpId.{OpId}
use Rattle.elan_terms.specs.declared.tree.SortId.{SortId}
use Rattle.elan_terms.specs.declared.tree.Term.{Term}
use Rattle.elan_terms.specs.declared.tree.Pattern.{Pattern}
use Rattle.elan_terms.specs.declared.tree.Shapes.{Shapes}
use Rattle.elan_terms.specs.Term.{node}
use Rattle.elan_terms.specs.Match.{noted, new_in, occurrences, variables, instance}
use Rattle.elan_terms.proofs.Lists.{AllOf, Pairs, all_append, all_of}
use Rattle.elan_terms.proofs.Sorting.{not_true}
use Rattle.elan_laws.proofs.CanonicalLaws.{true_or_false}
use Rattle.elan_laws.proofs.MatchLaws.{pairs_append}
use Rattle.elan_arms.specs.Arms.{app_pattern}
use Rattle.elan_arms.specs.Values.{AgreeOn}
use Rattle.elan_arms.proofs.Patterns.{var_pattern, int_pattern, ind_pattern, occurrences-of_var, occurrences-of_app, instance-of_var, instance-of_int, instance-of_app}

-- ---- what holds of each item of several lists

module _ {X : Type 0} (P : X → Type 0) where
  pub all_first : (xs ys : List X) → AllOf P (xs ++ ys) → AllOf P xs
  all_first [] ys h = tt
  all_first (x ∷ xs) ys h = (h.0, all_first xs ys h.1)

  pub all_second : (xs ys : List X) → AllOf P (xs ++ ys) → AllOf P ys
  all_second [] ys h = h
  all_second (x ∷ xs) ys h = all_second xs ys h.1

  pub all_each : {Y : Type 0} (f : Y → List X) (ys : List Y) → AllOf P (flat_map f ys) → AllOf (λ y. AllOf P (f y)) ys
  all_each f [] h = tt
  all_each f (y ∷ ys) h = (all_first (f y) (flat_map f ys) h, all_each f ys (all_second (f y) (flat_map f ys) h))

-- ---- one instance

module _ (shapes : Shapes) (value other : ℕ → Term) where
  -- at this variable they do not differ
  abbrev Alike : ℕ × SortId → Type 0
  Alike v = value v.0 ≡ other v.0

  abbrev OneInstance : Pattern → Type 0
  OneInstance p = AllOf Alike (occurrences p) → instance shapes value p ≡ instance shapes other p

  each_alike : (ps : List Pattern) → AllOf OneInstance ps → AllOf (λ p. AllOf Alike (occurrences p)) ps → map (instance shapes value) ps ≡ map (instance shapes other) ps
  each_alike [] h k = refl
  each_alike (p ∷ ps) h k = ap (λ t. t ∷ map (instance shapes value) ps) (h.0 k.0) ∙ ap (λ ts. instance shapes other p ∷ ts) (each_alike ps h.1 k.1)

  pub instance-alike : (p : Pattern) → AllOf (λ v. value v.0 ≡ other v.0) (occurrences p) → instance shapes value p ≡ instance shapes other p
  instance-alike = ind_pattern OneInstance
      (λ x s h. instance-of_var shapes value x s ∙ (subst (AllOf Alike) (occurrences-of_var x s) h).0 ∙ sym (instance-of_var shapes other x s))
      (λ z h. instance-of_int shapes value z ∙ sym (instance-of_int shapes other z))
      (λ op ps h k. instance-of_app shapes value op ps
      ∙ ap (node shapes op) (each_alike ps h (all_each Alike occurrences ps (subst (AllOf Alike) (occurrences-of_app op ps) k)))
      ∙ sym (instance-of_app shapes other op ps))

-- ---- the variables

either_is : (a b : Bool) → a || b ≡ true → (a ≡ true) ⊎ (b ≡ true)
either_is true b e = inl refl
either_is false b e = inr e

neither_is : (a b : Bool) → a || b ≡ false → (a ≡ false) × (b ≡ false)
neither_is true b e = not_true e
neither_is false b e = (refl, e)

noted-known : (seen : List (ℕ × SortId)) (v : ℕ × SortId) → list_any (λ w. w.0 == v.0) seen ≡ true → noted seen v ≡ seen
noted-known seen v e = ap (λ b. cond b seen (seen ++ v ∷ [])) e

noted-new : (seen : List (ℕ × SortId)) (v : ℕ × SortId) → list_any (λ w. w.0 == v.0) seen ≡ false → noted seen v ≡ seen ++ v ∷ []
noted-new seen v e = ap (λ b. cond b seen (seen ++ v ∷ [])) e

module _ (P : ℕ × SortId → Type 0) where
  noted-all : (seen : List (ℕ × SortId)) (v : ℕ × SortId) → AllOf P seen → P v → AllOf P (noted seen v)
  noted-all seen v h k = ⊎_elim
      (λ known. subst (AllOf P) (sym (noted-known seen v known)) h)
      (λ new. subst (AllOf P) (sym (noted-new seen v new)) (all_append P seen (v ∷ []) h (k, tt)))
      (true_or_false (list_any (λ w. w.0 == v.0) seen))

  new_in-all : (seen vs : List (ℕ × SortId)) → AllOf P seen → AllOf P vs → AllOf P (new_in seen vs)
  new_in-all seen [] h k = h
  new_in-all seen (v ∷ vs) h k = new_in-all (noted seen v) vs (noted-all seen v h k.0) k.1

  -- what holds at each place holds of each variable
  pub variables-all : (p : Pattern) → AllOf P (occurrences p) → AllOf P (variables p)
  unfolding variables
  variables-all p h = new_in-all [] (occurrences p) tt h

module _ (Q : ℕ → Type 0) where
  -- it holds of the number
  abbrev Of : ℕ × SortId → Type 0
  Of v = Q v.0

  any-of : (x : ℕ) (seen : List (ℕ × SortId)) → list_any (λ w. w.0 == x) seen ≡ true → AllOf Of seen → Q x
  any-of x [] e h = not_true (sym e)
  any-of x (w ∷ seen) e h = ⊎_elim
      (λ here. subst Q (eqb-true w.0 x here) h.0)
      (λ there. any-of x seen there h.1)
      (either_is (w.0 == x) (list_any (λ w. w.0 == x) seen) e)

  all-noted : (seen : List (ℕ × SortId)) (v : ℕ × SortId) → AllOf Of (noted seen v) → AllOf Of seen × Q v.0
  all-noted seen v h = ⊎_elim
      (λ known. let k : AllOf Of seen = subst (AllOf Of) (noted-known seen v known) h in (k, any-of v.0 seen known k))
      (λ new. let k : AllOf Of (seen ++ v ∷ []) = subst (AllOf Of) (noted-new seen v new) h in (all_first Of seen (v ∷ []) k, (all_second Of seen (v ∷ []) k).0))
      (true_or_false (list_any (λ w. w.0 == v.0) seen))

  all-new_in : (seen vs : List (ℕ × SortId)) → AllOf Of (new_in seen vs) → AllOf Of seen × AllOf Of vs
  all-new_in seen [] h = (h, tt)
  all-new_in seen (v ∷ vs) h =
      let k : AllOf Of (noted seen v) × AllOf Of vs = all-new_in (noted seen v) vs h in
      let l : AllOf Of seen × Q v.0 = all-noted seen v k.0 in
      (l.0, (l.1, k.1))

  -- and back, where it is said of its number
  pub all-variables : (p : Pattern) → AllOf (λ v. Q v.0) (variables p) → AllOf (λ v. Q v.0) (occurrences p)
  unfolding variables
  all-variables p h = (all-new_in [] (occurrences p) h).1

-- two variables have two numbers
abbrev pub Differ : ℕ × SortId → ℕ × SortId → Type 0
Differ v w = (v.0 == w.0) ≡ false

all_differ : (v : ℕ × SortId) (seen : List (ℕ × SortId)) → list_any (λ w. w.0 == v.0) seen ≡ false → AllOf (λ w. AllOf (Differ w) (v ∷ [])) seen
all_differ v [] e = tt
all_differ v (w ∷ seen) e = let k : ((w.0 == v.0) ≡ false) × (list_any (λ u. u.0 == v.0) seen ≡ false) = neither_is (w.0 == v.0) (list_any (λ u. u.0 == v.0) seen) e in
    ((k.0, tt), all_differ v seen k.1)

noted-differ : (seen : List (ℕ × SortId)) (v : ℕ × SortId) → Pairs Differ seen → Pairs Differ (noted seen v)
noted-differ seen v h = ⊎_elim
    (λ known. subst (Pairs Differ) (sym (noted-known seen v known)) h)
    (λ new. subst (Pairs Differ) (sym (noted-new seen v new)) (pairs_append Differ seen (v ∷ []) h (tt, tt) (all_differ v seen new)))
    (true_or_false (list_any (λ w. w.0 == v.0) seen))

new_in-differ : (seen vs : List (ℕ × SortId)) → Pairs Differ seen → Pairs Differ (new_in seen vs)
new_in-differ seen [] h = h
new_in-differ seen (v ∷ vs) h = new_in-differ (noted seen v) vs (noted-differ seen v h)

pub variables-differ : (p : Pattern) → Pairs Differ (variables p)
unfolding variables
variables-differ p = new_in-differ [] (occurrences p) tt

-- ---- as the laws say it

pub agree_on-places : (shapes : Shapes) (value other : ℕ → Term) (p : Pattern) → AgreeOn value other (occurrences p) → instance shapes value p ≡ instance shapes other p
agree_on-places shapes value other p h = instance-alike shapes value other p (all_of (λ v. value v.0 ≡ other v.0) (occurrences p) h)

pub agree_on-variables : (shapes : Shapes) (value other : ℕ → Term) (p : Pattern) → AgreeOn value other (variables p) → instance shapes value p ≡ instance shapes other p
agree_on-variables shapes value other p h =
    instance-alike shapes value other p (all-variables (λ x. value x ≡ other x) p (all_of (λ v. value v.0 ≡ other v.0) (variables p) h))
