-- Numbers that fall with each step down a term or a pattern, and along a list of them, for measures.
use Rattle.std.specs.Prelude.{ℕ, ◌+◌, List, [], ◌∷◌, map}
use Rattle.elan_terms.specs.declared.tree.Term.{Term}
use Rattle.elan_terms.specs.declared.tree.Pattern.{Pattern}
use Rattle.elan_terms.specs.Trees.{fold_term, fold_pattern}

-- the sum of these numbers, and one more for each
abbrev pub total : List ℕ → ℕ
total [] = 0
total (n ∷ ns) = 1 + n + total ns

-- one more than the arguments weigh
unfoldable pub weight : Term → ℕ
weight = fold_term (λ _. 1) (λ _ ns. 1 + total ns)

-- what a list of terms weighs
abbrev pub weights : List Term → ℕ
weights ts = total (map weight ts)

-- the same of a pattern
unfoldable pub pattern_weight : Pattern → ℕ
pattern_weight = fold_pattern (λ _ _. 1) (λ _. 1) (λ _ ns. 1 + total ns)

-- what a list of patterns weighs
abbrev pub pattern_weights : List Pattern → ℕ
pattern_weights ps = total (map pattern_weight ps)
