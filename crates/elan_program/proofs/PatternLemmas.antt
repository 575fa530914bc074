-- The equations of the sort of a pattern, and of the variables that it uses.
use Rattle.std.proofs.Common.{◌≡◌, refl, ap, ◌∙◌, ℕ, ℤ, Bool, true, false, ◌&&◌, List, [], ◌∷◌, map}
use Rattle.std.specs.Prelude.{Some, slice_get}
use Rattle.std.specs.List.{list_all, flat_map}
use Rattle.std.proofs.lemmas.List.Folds.{list_all-append}
use Rattle.elan_terms.specs.declared.tree.OpId.{OpId}
use Rattle.elan_terms.specs.declared.tree.SortId.{SortId}
use Rattle.elan_terms.specs.declared.tree.Shapes.{Shapes}
use Rattle.elan_terms.specs.declared.tree.Pattern.{Pattern}
use Rattle.elan_terms.specs.declared.tree.PatternNode as pattern
use Rattle.elan_terms.specs.Match.{occurrences}
use Rattle.elan_terms.proofs.TreeLemmas.{fold_pattern-app}
use Rattle.elan_terms.proofs.MatchLemmas.{occurrences-var, occurrences-int, occurrences-app}
use Rattle.elan_terms.proofs.WeightLemmas.{falls}
use Rattle.elan_program.specs.Patterns.{pattern_sort, sort_of_int, sort_over, uses, is_bound}

module _ (shapes : Shapes) (p : Pattern) where
  pub pattern_sort-var : (x : ℕ) (s : SortId) → p.node ≡ pattern.Var x s → pattern_sort shapes p ≡ Some s
  unfolding pattern_sort
  pattern_sort-var x s e = ap (λ n. pattern_sort shapes (record { node = n })) e

  pub pattern_sort-int : (z : ℤ) → p.node ≡ pattern.Int z → pattern_sort shapes p ≡ sort_of_int shapes z
  unfolding pattern_sort
  pattern_sort-int z e = ap (λ n. pattern_sort shapes (record { node = n })) e

  pub pattern_sort-app : (op : OpId) (args : List Pattern) → p.node ≡ pattern.App op args
      → pattern_sort shapes p ≡ sort_over (slice_get shapes.shapes op.0) (map (pattern_sort shapes) args)
  unfolding pattern_sort
  pattern_sort-app op args e =
      ap (λ n. pattern_sort shapes (record { node = n })) e
      ∙ fold_pattern-app (λ x s. Some s) (sort_of_int shapes) (λ op found. sort_over (slice_get shapes.shapes op.0) found) op args

pub ruleset sort_rules = (falls, pattern_sort-var, pattern_sort-int, pattern_sort-app)

and_true : (b : Bool) → (b && true) ≡ b
and_true true = refl
and_true false = refl

module _ (bound : List (ℕ × SortId)) where
  pub uses-var : (p : Pattern) (x : ℕ) (s : SortId) → p.node ≡ pattern.Var x s → uses bound p ≡ is_bound bound (x, s)
  unfolding uses
  uses-var p x s e = ap (list_all (is_bound bound)) (occurrences-var p x s e) ∙ and_true (is_bound bound (x, s))

  pub uses-int : (p : Pattern) (z : ℤ) → p.node ≡ pattern.Int z → uses bound p ≡ true
  unfolding uses
  uses-int p z e = ap (list_all (is_bound bound)) (occurrences-int p z e)

  uses-each : (ps : List Pattern) → list_all (is_bound bound) (flat_map occurrences ps) ≡ list_all (uses bound) ps
  unfolding uses
  uses-each [] = refl
  uses-each (p ∷ ps) =
      list_all-append (is_bound bound) (occurrences p) (flat_map occurrences ps)
      ∙ ap (λ b. list_all (is_bound bound) (occurrences p) && b) (uses-each ps)

  pub uses-app : (p : Pattern) (op : OpId) (args : List Pattern) → p.node ≡ pattern.App op args
      → uses bound p ≡ list_all (uses bound) args
  unfolding uses
  uses-app p op args e = ap (list_all (is_bound bound)) (occurrences-app p op args e) ∙ uses-each args

pub ruleset use_rules = (falls, uses-var, uses-int, uses-app)
