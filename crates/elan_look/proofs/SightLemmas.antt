-- The sort of a row's term, and which patterns have known values alone.
use Rattle.std.proofs.Common.{◌≡◌, refl, sym, ap, ◌∙◌, Bool, true, ◌&&◌, ℕ, ℤ, Option, Some, None, List, [], ◌∷◌, map, slice_get, is_some}
use Rattle.std.specs.List.{list_all}
use Rattle.boxcar.specs.Table.{Where}
use Rattle.elan_terms.specs.declared.tree.OpId.{OpId}
use Rattle.elan_terms.specs.declared.tree.SortId.{SortId}
use Rattle.elan_terms.specs.declared.tree.Term.{Term}
use Rattle.elan_terms.specs.declared.tree.Pattern.{Pattern}
use Rattle.elan_terms.specs.declared.tree.PatternNode as pattern
use Rattle.elan_terms.specs.declared.tree.Shapes.{Shapes}
use Rattle.elan_terms.specs.Trees.{int_term, app_term}
use Rattle.elan_terms.specs.Term.{sort_of, shape_sort}
use Rattle.elan_terms.specs.Valid.{HasSort}
use Rattle.elan_terms.proofs.TreeLemmas.{fold_pattern-app}
use Rattle.elan_terms.proofs.MatchLemmas.{sort_of-int, sort_of-app}
use Rattle.elan_look.specs.declared.sight.Sight.{Sight}
use Rattle.elan_look.specs.Sights.{value_at, is_given}

-- ---- sorts

pub sort-int : (shapes found : Shapes) (t : Term) (z : ℤ) → found ≡ shapes → t ≡ int_term z → found.int ≡ sort_of shapes t
sort-int shapes found t z is e = ap (λ (g : Shapes). g.int) is ∙ sym (sort_of-int shapes t z (ap (λ u. u.node) e))

pub sort-app : (shapes : Shapes) (t : Term) (f : OpId) (ts : List Term) → t ≡ app_term f ts → shape_sort (slice_get shapes.shapes f.0) ≡ sort_of shapes t
sort-app shapes t f ts e = sym (sort_of-app shapes t f ts (ap (λ u. u.node) e))

pub ruleset sorts = (sort-int, sort-app)

none_some : {X : Type 0} {A : Type 0} {x : X} → None ≡ Some x → A
none_some {X = X} {x = x} e = absurd (never e)
  where
    never : None ≡ Some x → ⊥
    never f = cc

same_some : {X : Type 0} {x y : X} → Some x ≡ Some y → x ≡ y
same_some e = cc

pub no_sort : (shapes : Shapes) (t : Term) (s : SortId) → None ≡ sort_of shapes t → HasSort shapes t s → ⊥
no_sort shapes t s e h = none_some (e ∙ h)

pub its_sort : (shapes : Shapes) (t : Term) (s own : SortId) → Some own ≡ sort_of shapes t → own.0 ≡ s.0 → HasSort shapes t s
its_sort shapes t s own e h = sym e ∙ ap (λ (n : ℕ). Some (record { 0 = n })) h

pub its_number : (shapes : Shapes) (t : Term) (s own : SortId) → Some own ≡ sort_of shapes t → HasSort shapes t s → own.0 ≡ s.0
its_number shapes t s own e h = ap (λ q. q.0) (same_some (e ∙ h))

pub ruleset of_sort = (no_sort, its_sort, its_number)

-- ---- patterns whose variables all have known values

mapped_all : {X : Type 0} (test : X → Bool) (xs : List X) → list_all (λ b. b) (map test xs) ≡ list_all test xs
mapped_all test [] = refl
mapped_all test (x ∷ xs) = ap (λ b. test x && b) (mapped_all test xs)

module _ {N : Type 0} where
  pub given-var : (s : Sight N) (p : Pattern) (x : ℕ) (sort : SortId) (row : Option (Where Term)) → p.node ≡ pattern.Var x sort → row ≡ value_at s x → is_some row ≡ is_given s p
  unfolding is_given
  given-var s p x sort row e f = ap is_some f ∙ sym (ap (λ n. is_given s (record { node = n })) e)

  pub given-int : (s : Sight N) (p : Pattern) (z : ℤ) → p.node ≡ pattern.Int z → true ≡ is_given s p
  unfolding is_given
  given-int s p z e = sym (ap (λ n. is_given s (record { node = n })) e)

  pub given-app : (s : Sight N) (p : Pattern) (op : OpId) (ps : List Pattern) → p.node ≡ pattern.App op ps → is_given s p ≡ list_all (is_given s) ps
  unfolding is_given
  given-app s p op ps e = ap (λ n. is_given s (record { node = n })) e
      ∙ fold_pattern-app (λ x _. is_some (value_at s x)) (λ _. true) (λ _ each. list_all (λ given. given) each) op ps
      ∙ mapped_all (is_given s) ps

  pub given-args : (s : Sight N) (p : Pattern) (op : OpId) (ps qs : List Pattern) (b : Bool) → p.node ≡ pattern.App op ps → qs ≡ ps → b ≡ list_all (is_given s) qs → b ≡ is_given s p
  given-args s p op ps qs b e f all = all ∙ ap (list_all (is_given s)) f ∙ sym (given-app s p op ps e)

pub ruleset given_rules = (given-var, given-int, given-args)
