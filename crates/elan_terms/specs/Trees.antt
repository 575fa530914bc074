-- Recursion over terms and patterns, in which the arguments of an application are a plain list.
use Rattle.std.specs.Prelude.{ℕ, ℤ, List, [], ◌∷◌}
use Rattle.elan_terms.specs.declared.tree.OpId.{OpId}
use Rattle.elan_terms.specs.declared.tree.SortId.{SortId}
use Rattle.elan_terms.specs.declared.tree.Term.{Term}
use Rattle.elan_terms.specs.declared.tree.TermNode as term
use Rattle.elan_terms.specs.declared.tree.Pattern.{Pattern}
use Rattle.elan_terms.specs.declared.tree.PatternNode as pattern

-- what `int` gives for an integer, and `app` for an application, which has what its arguments gave
module _ {A : Type 0} (int : ℤ → A) (app : OpId → List A → A) where
  abbrev mutual
    pub fold_node : term.TermNode → A
    fold_node (term.Int z) = int z
    fold_node (term.App' op shape row) = app op (fold_row row)

    pub fold_row : {n : _} → term.Row_of-Term n → List A
    fold_row term.end_of-Term = []
    fold_row (term.more_of-Term x rest) = fold_node x ∷ fold_row rest

-- the same of a whole term
abbrev pub fold_term : {A : Type 0} → (ℤ → A) → (OpId → List A → A) → Term → A
fold_term int app t = fold_node int app t.node

-- the same, where `app` has each argument beside what it gave
module _ {A : Type 0} (int : ℤ → A) (app : OpId → List (Term × A) → A) where
  abbrev mutual
    pub para_node : term.TermNode → A
    para_node (term.Int z) = int z
    para_node (term.App' op shape row) = app op (para_row row)

    pub para_row : {n : _} → term.Row_of-Term n → List (Term × A)
    para_row term.end_of-Term = []
    para_row (term.more_of-Term x rest) = (record { node = x }, para_node x) ∷ para_row rest

-- the same of a whole term, with each argument at hand
abbrev pub para_term : {A : Type 0} → (ℤ → A) → (OpId → List (Term × A) → A) → Term → A
para_term int app t = para_node int app t.node

-- the two cases of a term
abbrev pub case_node : {A : Type 0} → (ℤ → A) → (OpId → List Term → A) → term.TermNode → A
case_node int app (term.Int z) = int z
case_node int app (term.App' op shape row) = app op (term.items-the_row-Term _ row)

-- the same of a whole term, with a case for each kind
abbrev pub case_term : {A : Type 0} → (ℤ → A) → (OpId → List Term → A) → Term → A
case_term int app t = case_node int app t.node

-- an integer as a term
abbrev pub int_term : ℤ → Term
int_term z = record { node = term.Int z }

-- an operator over terms as a term
abbrev pub app_term : OpId → List Term → Term
app_term op args = record { node = term.App op args }

-- the same for patterns
module _ {A : Type 0} (var : ℕ → SortId → A) (int : ℤ → A) (app : OpId → List A → A) where
  abbrev mutual
    pub fold_pattern_node : pattern.PatternNode → A
    fold_pattern_node (pattern.Var x s) = var x s
    fold_pattern_node (pattern.Int z) = int z
    fold_pattern_node (pattern.App' op shape row) = app op (fold_pattern_row row)

    pub fold_pattern_row : {n : _} → pattern.Row_of-Pattern n → List A
    fold_pattern_row pattern.end_of-Pattern = []
    fold_pattern_row (pattern.more_of-Pattern x rest) = fold_pattern_node x ∷ fold_pattern_row rest

-- the same of a whole pattern
abbrev pub fold_pattern : {A : Type 0} → (ℕ → SortId → A) → (ℤ → A) → (OpId → List A → A) → Pattern → A
fold_pattern var int app p = fold_pattern_node var int app p.node
