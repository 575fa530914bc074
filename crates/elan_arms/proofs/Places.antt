-- Under an operator that is not associative and commutative each pattern is the argument in its place; heads agree.
use Rattle.std.proofs.Common.{◌≡◌, refl, sym, ap, ◌∙◌, ◌↔◌, subst, ℕ, ℤ, Bool, true, false, ◌==◌, eq-eqb, List, [], ◌∷◌, map}
use Rattle.std.specs.List.{AllZip}
use Rattle.std.specs.Ordering.{int_eq}
use Rattle.std.proofs.lemmas.Bool.Decides.{Decides-int_eq}
use Rattle.elan_terms.specs.declared.tree.OpId.{OpId}
use Rattle.elan_terms.specs.declared.tree.Term.{Term}
use Rattle.elan_terms.specs.declared.tree.Pattern.{Pattern}
use Rattle.elan_terms.specs.declared.tree.Shapes.{Shapes}
use Rattle.elan_terms.specs.Trees.{int_term, app_term}
use Rattle.elan_terms.specs.Term.{is_ac}
use Rattle.elan_terms.specs.Match.{instance, may_fit}
use Rattle.elan_terms.proofs.HeadLemmas.{may_fit-var, may_fit-ints, may_fit-apps}
use Rattle.elan_laws.proofs.CanonicalLaws.{node-plain}
use Rattle.elan_arms.specs.Arms.{app_pattern}
use Rattle.elan_arms.proofs.Patterns.{var_pattern, int_pattern, cases_pattern, instance-of_int, instance-of_app, same_arguments, same_operators}
use Rattle.elan_arms.proofs.Nodes.{some_arguments}

-- a list beside its image
pub mapped-zip : {X Y : Type 0} (f : X → Y) (xs : List X) (ys : List Y) → map f xs ≡ ys → AllZip (λ x y. f x ≡ y) xs ys
mapped-zip f xs ys e = subst (AllZip (λ x y. f x ≡ y) xs) e (beside xs)
  where
    beside : (zs : List _) → AllZip (λ x y. f x ≡ y) zs (map f zs)
    beside [] = tt
    beside (z ∷ zs) = (refl, beside zs)

pub zip-mapped : {X Y : Type 0} (f : X → Y) (xs : List X) (ys : List Y) → AllZip (λ x y. f x ≡ y) xs ys → map f xs ≡ ys
zip-mapped f [] [] h = refl
zip-mapped f [] (y ∷ ys) h = absurd h
zip-mapped f (x ∷ xs) [] h = absurd h
zip-mapped f (x ∷ xs) (y ∷ ys) h = ap (λ z. z ∷ map f xs) h.0 ∙ ap (λ zs. y ∷ zs) (zip-mapped f xs ys h.1)

module _ (shapes : Shapes) (value : ℕ → Term) where
  pub instance-plain : (op : OpId) (ps : List Pattern) → is_ac shapes op ≡ false → instance shapes value (app_pattern op ps) ≡ app_term op (map (instance shapes value) ps)
  instance-plain op ps plain = instance-of_app shapes value op ps ∙ node-plain shapes op (map (instance shapes value) ps) plain

  pub plain-places : (op f : OpId) (ps : List Pattern) (ts : List Term) → is_ac shapes op ≡ false → instance shapes value (app_pattern op ps) ≡ app_term f ts
      → (op ≡ f) × AllZip (λ p t. instance shapes value p ≡ t) ps ts
  plain-places op f ps ts plain e =
      let k : app_term op (map (instance shapes value) ps) ≡ app_term f ts = sym (instance-plain op ps plain) ∙ e in
      (same_operators op f (map (instance shapes value) ps) ts k, mapped-zip (instance shapes value) ps ts (same_arguments op f (map (instance shapes value) ps) ts k))

  pub places-plain : (op f : OpId) (ps : List Pattern) (ts : List Term) → is_ac shapes op ≡ false → op ≡ f → AllZip (λ p t. instance shapes value p ≡ t) ps ts
      → instance shapes value (app_pattern op ps) ≡ app_term f ts
  places-plain op f ps ts plain e h = instance-plain op ps plain ∙ ap (app_term op) (zip-mapped (instance shapes value) ps ts h) ∙ ap (λ g. app_term g ts) e

  pub plain-exactly : (op f : OpId) (ps : List Pattern) (ts : List Term) → is_ac shapes op ≡ false
      → (instance shapes value (app_pattern op ps) ≡ app_term f ts) ↔ ((op ≡ f) × AllZip (λ p t. instance shapes value p ≡ t) ps ts)
  plain-exactly op f ps ts plain = (plain-places op f ps ts plain, λ h. places-plain op f ps ts plain h.0 h.1)

  heads_fit : (p : Pattern) → may_fit p (instance shapes value p) ≡ true
  heads_fit = cases_pattern (λ p. may_fit p (instance shapes value p) ≡ true)
      (λ x s. sym (may_fit-var (var_pattern x s) (instance shapes value (var_pattern x s)) x s refl))
      (λ z. ap (may_fit (int_pattern z)) (instance-of_int shapes value z) ∙ sym (may_fit-ints (int_pattern z) (int_term z) z z refl refl) ∙ (Decides-int_eq z z).1 refl)
      (λ op ps. let k : (ts : List Term) × (instance shapes value (app_pattern op ps) ≡ app_term op ts) = some_arguments shapes value op ps in
      ap (may_fit (app_pattern op ps)) k.1 ∙ sym (may_fit-apps (app_pattern op ps) (app_term op k.0) op op ps k.0 refl refl) ∙ eq-eqb op.0 op.0 refl)

  pub instance-fits : (p : Pattern) (t : Term) → instance shapes value p ≡ t → may_fit p t ≡ true
  instance-fits p t e = ap (may_fit p) (sym e) ∙ heads_fit p
