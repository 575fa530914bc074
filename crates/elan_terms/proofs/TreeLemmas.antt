-- The equations of a recursion over terms and patterns, at plain lists of arguments.
use Rattle.std.proofs.Common.{◌≡◌, refl, ap, ◌∙◌, ℕ, ℤ, List, ◌∷◌, map}
use Rattle.elan_terms.specs.declared.tree.OpId.{OpId}
use Rattle.elan_terms.specs.declared.tree.SortId.{SortId}
use Rattle.elan_terms.specs.declared.tree.Term.{Term}
use Rattle.elan_terms.specs.declared.tree.TermNode as term
use Rattle.elan_terms.specs.declared.tree.TermNode.TheBlock.{hidden-the_row-Term-0}
use Rattle.elan_terms.specs.declared.tree.Pattern.{Pattern}
use Rattle.elan_terms.specs.declared.tree.PatternNode as pattern
use Rattle.elan_terms.specs.declared.tree.PatternNode.TheBlock.{hidden-the_row-Pattern-0}
use Rattle.elan_terms.specs.Trees.{fold_node, fold_row, fold_term, para_node, para_row, para_term, case_term, app_term, fold_pattern_node, fold_pattern_row, fold_pattern}

module _ {A : Type 0} (int : ℤ → A) (app : OpId → List A → A) where
  fold_row-items : {n : _} (row : term.Row_of-Term n) → fold_row int app row ≡ map (fold_term int app) (term.items-the_row-Term n row)
  fold_row-items term.end_of-Term = refl
  fold_row-items (term.more_of-Term x rest) = ap (λ r. fold_node int app x ∷ r) (fold_row-items rest)

  pub fold_term-app : (op : OpId) (args : List Term) → fold_term int app (app_term op args) ≡ app op (map (fold_term int app) args)
  fold_term-app op args = ap (app op) (fold_row-items (hidden-the_row-Term-0 args) ∙ ap (map (fold_term int app)) (term.items_hidden-the_row-Term-0 args))

module _ {A : Type 0} (int : ℤ → A) (app : OpId → List (Term × A) → A) where
  para_row-items : {n : _} (row : term.Row_of-Term n) → para_row int app row ≡ map (λ t. (t, para_term int app t)) (term.items-the_row-Term n row)
  para_row-items term.end_of-Term = refl
  para_row-items (term.more_of-Term x rest) = ap (λ r. (record { node = x }, para_node int app x) ∷ r) (para_row-items rest)

  pub para_term-app : (op : OpId) (args : List Term) → para_term int app (app_term op args) ≡ app op (map (λ t. (t, para_term int app t)) args)
  para_term-app op args = ap (app op) (para_row-items (hidden-the_row-Term-0 args) ∙ ap (map (λ t. (t, para_term int app t))) (term.items_hidden-the_row-Term-0 args))

pub case_term-app : {A : Type 0} (int : ℤ → A) (app : OpId → List Term → A) (op : OpId) (args : List Term) → case_term int app (app_term op args) ≡ app op args
case_term-app int app op args = ap (app op) (term.items_hidden-the_row-Term-0 args)

module _ {A : Type 0} (var : ℕ → SortId → A) (int : ℤ → A) (app : OpId → List A → A) where
  fold_pattern_row-items : {n : _} (row : pattern.Row_of-Pattern n) → fold_pattern_row var int app row ≡ map (fold_pattern var int app) (pattern.items-the_row-Pattern n row)
  fold_pattern_row-items pattern.end_of-Pattern = refl
  fold_pattern_row-items (pattern.more_of-Pattern x rest) = ap (λ r. fold_pattern_node var int app x ∷ r) (fold_pattern_row-items rest)

  pub fold_pattern-app : (op : OpId) (args : List Pattern) → fold_pattern var int app (record { node = pattern.App op args }) ≡ app op (map (fold_pattern var int app) args)
  fold_pattern-app op args = ap (app op) (fold_pattern_row-items (hidden-the_row-Pattern-0 args) ∙ ap (map (fold_pattern var int app)) (pattern.items_hidden-the_row-Pattern-0 args))
