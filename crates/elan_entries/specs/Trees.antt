-- Patterns: how they are made, what a shared one is seen as, and when two are equal.
use Rattle.std.specs.Prelude.{ℕ, ℤ, Bool, true, false, ◌&&◌, ◌==◌, List, [], ◌∷◌}
use Rattle.std.specs.Ordering.{int_eq}
use Rattle.elan_terms.specs.declared.tree.OpId.{OpId}
use Rattle.elan_terms.specs.declared.tree.SortId.{SortId}
use Rattle.elan_program.specs.Extension.{var_pattern, int_pattern, app_pattern}
use Rattle.elan_terms.specs.declared.tree.Pattern.{Pattern}
use Rattle.elan_terms.specs.declared.tree.PatternNode as pattern
use Rattle.elan_terms.specs.Trees.{fold_pattern}
use Rattle.elan_entries.specs.declared.shared.TreeNode.{TreeNode}
use Rattle.elan_entries.specs.declared.shared.TreeNode.TheVariants.{Var, Int, App}
use Rattle.elan_entries.specs.declared.shared.Node.{Node}
use Rattle.elan_entries.specs.declared.shared.Node.TheVariants as node

-- what a shared node is seen as
abbrev pub shown : TreeNode → Pattern
shown (Var x s) = var_pattern x s
shown (Int z) = int_pattern z
shown (App a) = app_pattern a.value.op a.value.args

-- the pattern whose node this is
abbrev pub told : Node → Pattern
told (node.Var x s) = var_pattern x s
told (node.Int z) = int_pattern z
told (node.App op args) = app_pattern op args.now

-- the three cases of a pattern
abbrev pub case_node : {A : Type 0} → (ℕ → SortId → A) → (ℤ → A) → (OpId → List Pattern → A) → pattern.PatternNode → A
case_node var int app (pattern.Var x s) = var x s
case_node var int app (pattern.Int z) = int z
case_node var int app (pattern.App' op shape row) = app op (pattern.items-the_row-Pattern _ row)

-- each test passes at the pattern of its place, and there are as many
abbrev pub each : List (Pattern → Bool) → List Pattern → Bool
each [] [] = true
each (f ∷ fs) (u ∷ us) = f u && each fs us
each _ _ = false

-- whether a pattern is this variable
abbrev pub same_var : ℕ → SortId → Pattern → Bool
same_var x s u = case_node (λ y t. x == y && s.0 == t.0) (λ _. false) (λ _ _. false) u.node

-- whether a pattern is this integer
abbrev pub same_int : ℤ → Pattern → Bool
same_int z u = case_node (λ _ _. false) (int_eq z) (λ _ _. false) u.node

-- whether a pattern is this operator over arguments that pass these tests
abbrev pub same_app : OpId → List (Pattern → Bool) → Pattern → Bool
same_app op fs u = case_node (λ _ _. false) (λ _. false) (λ op' us. op.0 == op'.0 && each fs us) u.node

-- whether two patterns are equal
unfoldable pub same : Pattern → Pattern → Bool
same = fold_pattern same_var same_int same_app

-- whether two lists of patterns are equal
abbrev pub same_all : List Pattern → List Pattern → Bool
same_all [] [] = true
same_all (t ∷ ts) (u ∷ us) = same t u && same_all ts us
same_all _ _ = false
