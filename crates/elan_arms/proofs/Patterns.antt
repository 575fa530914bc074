-- Induction over patterns, in which the patterns under an operator are a plain list; and equations of patterns.
use Rattle.std.proofs.Common.{◌≡◌, refl, sym, ap, ◌∙◌, subst, ℕ, ℤ, Bool, true, false, cond, ◌==◌, eqb-true, eq-eqb, List, [], ◌∷◌, ◌++◌, map, flat_map}
use Rattle.elan_terms.specs.declared.tree.OpId.{OpId}
use Rattle.elan_terms.specs.declared.tree.SortId.{SortId}
use Rattle.elan_terms.specs.declared.tree.Term.{Term}
use Rattle.elan_terms.specs.declared.tree.Pattern.{Pattern}
use Rattle.elan_terms.specs.declared.tree.PatternNode.{PatternNode, Var, Int, App, App', Row_of-Pattern, end_of-Pattern, more_of-Pattern, items-the_row-Pattern, items_shown-the_row-Pattern-0, items_hidden-the_row-Pattern-0, roll-PatternNode, roll-out-PatternNode}
use Rattle.elan_terms.specs.declared.tree.PatternNode.TheVariants.{rolls-App, outs-App'}
use Rattle.elan_terms.specs.declared.tree.PatternNode.TheBlock.{shown-the_row-Pattern-0, hidden-the_row-Pattern-0}
use Rattle.elan_terms.specs.declared.tree.Shapes.{Shapes}
use Rattle.elan_terms.specs.Trees.{case_term, int_term, app_term}
use Rattle.elan_terms.specs.Term.{node}
use Rattle.elan_terms.specs.Match.{occurrences, instance}
use Rattle.elan_terms.proofs.TreeLemmas.{case_term-app}
use Rattle.elan_terms.proofs.MatchLemmas.{occurrences-var, occurrences-int, occurrences-app, instance-var, instance-int, instance-app}
use Rattle.elan_terms.proofs.Lists.{AllOf}
use Rattle.elan_arms.specs.Arms.{app_pattern, apart_node, apart_row, taken_apart}

-- ---- induction

-- a node of a shape and a row is one of a list
node-is : (op : OpId) (shape : _) (row : Row_of-Pattern _) → App' op shape row ≡ App op (items-the_row-Pattern _ row)
node-is op shape row =
    sym (roll-out-PatternNode (App' op shape row)) ∙ ap roll-PatternNode (outs-App' op shape row) ∙ rolls-App op (shown-the_row-Pattern-0 shape row)
    ∙ ap (App op) (items_shown-the_row-Pattern-0 shape row)

-- a variable as a pattern
abbrev pub var_pattern : ℕ → SortId → Pattern
var_pattern x s = record { node = Var x s }

-- an integer as a pattern
abbrev pub int_pattern : ℤ → Pattern
int_pattern z = record { node = Int z }

module _ (P : Pattern → Type 0) (var : (x : ℕ) (s : SortId) → P (var_pattern x s)) (int : (z : ℤ) → P (int_pattern z)) (app : (op : OpId) (ps : List Pattern) → AllOf P ps → P (app_pattern op ps)) where
  mutual
    ind_node : (n : PatternNode) → P (record { node = n })
    ind_node (Var x s) = var x s
    ind_node (Int z) = int z
    ind_node (App' op shape row) = subst (λ n. P (record { node = n })) (sym (node-is op shape row)) (app op (items-the_row-Pattern _ row) (ind_row row))

    ind_row : {n : _} (row : Row_of-Pattern n) → AllOf P (items-the_row-Pattern n row)
    ind_row end_of-Pattern = tt
    ind_row (more_of-Pattern x rest) = (ind_node x, ind_row rest)

  -- what holds of variables and integers, and of an application where it holds of its patterns, holds of every pattern
  pub ind_pattern : (p : Pattern) → P p
  ind_pattern p = ind_node p.node

-- what holds of variables, integers and applications holds of every pattern
pub cases_pattern : (P : Pattern → Type 0) → ((x : ℕ) (s : SortId) → P (var_pattern x s)) → ((z : ℤ) → P (int_pattern z)) → ((op : OpId) (ps : List Pattern) → P (app_pattern op ps)) → (p : Pattern) → P p
cases_pattern P var int app = ind_pattern P var int (λ op ps _. app op ps)

-- ---- equations

pub occurrences-of_var : (x : ℕ) (s : SortId) → occurrences (var_pattern x s) ≡ (x, s) ∷ []
occurrences-of_var x s = occurrences-var (var_pattern x s) x s refl

pub occurrences-of_int : (z : ℤ) → occurrences (int_pattern z) ≡ []
occurrences-of_int z = occurrences-int (int_pattern z) z refl

pub occurrences-of_app : (op : OpId) (ps : List Pattern) → occurrences (app_pattern op ps) ≡ flat_map occurrences ps
occurrences-of_app op ps = occurrences-app (app_pattern op ps) op ps refl

module _ (shapes : Shapes) (value : ℕ → Term) where
  pub instance-of_var : (x : ℕ) (s : SortId) → instance shapes value (var_pattern x s) ≡ value x
  instance-of_var x s = instance-var shapes value (var_pattern x s) x s refl

  pub instance-of_int : (z : ℤ) → instance shapes value (int_pattern z) ≡ int_term z
  instance-of_int z = instance-int shapes value (int_pattern z) z refl

  pub instance-of_app : (op : OpId) (ps : List Pattern) → instance shapes value (app_pattern op ps) ≡ node shapes op (map (instance shapes value) ps)
  instance-of_app op ps = instance-app shapes value (app_pattern op ps) op ps refl

-- ---- patterns that give way

apart_row-items : (op : OpId) {n : _} (row : Row_of-Pattern n) → apart_row op row ≡ taken_apart op (items-the_row-Pattern n row)
apart_row-items op end_of-Pattern = refl
apart_row-items op (more_of-Pattern x rest) = ap (λ ps. apart_node op x ++ ps) (apart_row-items op rest)

pub apart-same : (op f : OpId) (ps : List Pattern) → (op.0 == f.0) ≡ true → apart_node op (App f ps) ≡ taken_apart op ps
apart-same op f ps e = ap (λ b. cond b (apart_row op (hidden-the_row-Pattern-0 ps)) (app_pattern f ps ∷ [])) e
    ∙ apart_row-items op (hidden-the_row-Pattern-0 ps) ∙ ap (taken_apart op) (items_hidden-the_row-Pattern-0 ps)

pub apart-other : (op f : OpId) (ps : List Pattern) → (op.0 == f.0) ≡ false → apart_node op (App f ps) ≡ app_pattern f ps ∷ []
apart-other op f ps e = ap (λ b. cond b (apart_row op (hidden-the_row-Pattern-0 ps)) (app_pattern f ps ∷ [])) e

-- ---- applications that are equal

no_op : OpId
no_op = record { 0 = 0 }

pub same_arguments : (op f : OpId) (us ts : List Term) → app_term op us ≡ app_term f ts → us ≡ ts
same_arguments op f us ts e =
    sym (case_term-app (λ _. []) (λ _ vs. vs) op us) ∙ ap (case_term (λ _. []) (λ _ vs. vs)) e ∙ case_term-app (λ _. []) (λ _ vs. vs) f ts

pub same_operators : (op f : OpId) (us ts : List Term) → app_term op us ≡ app_term f ts → op ≡ f
same_operators op f us ts e =
    sym (case_term-app (λ _. no_op) (λ g _. g) op us) ∙ ap (case_term (λ _. no_op) (λ g _. g)) e ∙ case_term-app (λ _. no_op) (λ g _. g) f ts

-- operators of one number are one
pub one_operator : (op f : OpId) → (op.0 == f.0) ≡ true → op ≡ f
one_operator op f e = ap (λ (n : ℕ). record { 0 = n }) (eqb-true op.0 f.0 e)
