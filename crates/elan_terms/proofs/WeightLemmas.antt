-- The equations of weight.
use Rattle.std.proofs.Common.{◌≡◌, ap, ◌∙◌, sym, subst, ℕ, zero, suc, ◌+◌, ◌<◌, List, [], ◌∷◌, map, length, get_or, arith}
use Rattle.elan_terms.specs.declared.tree.OpId.{OpId}
use Rattle.elan_terms.specs.declared.tree.Term.{Term}
use Rattle.elan_terms.specs.declared.tree.TermNode as term
use Rattle.elan_terms.specs.declared.tree.Pattern.{Pattern}
use Rattle.elan_terms.specs.declared.tree.PatternNode as pattern
use Rattle.elan_terms.specs.Weight.{weight, weights, total, pattern_weight, pattern_weights}
use Rattle.elan_terms.proofs.TreeLemmas.{fold_term-app, fold_pattern-app}

pub weight-app : (t : Term) (op : OpId) (args : List Term) → t.node ≡ term.App op args → weight t ≡ 1 + weights args
unfolding weight
weight-app t op args e = ap (λ n. weight (record { node = n })) e ∙ fold_term-app (λ _. 1) (λ _ ns. 1 + total ns) op args

pub pattern_weight-app : (p : Pattern) (op : OpId) (args : List Pattern) → p.node ≡ pattern.App op args → pattern_weight p ≡ 1 + pattern_weights args
unfolding pattern_weight
pattern_weight-app p op args e = ap (λ n. pattern_weight (record { node = n })) e ∙ fold_pattern-app (λ _ _. 1) (λ _. 1) (λ _ ns. 1 + total ns) op args

total-at : {X : Type 0} (f : X → ℕ) (xs : List X) (i : ℕ) (d : X) → i < length xs → f (get_or xs i d) < total (map f xs)
total-at f [] i d below = absurd (omega arith)
total-at f (x ∷ xs) zero d below = omega arith
total-at f (x ∷ xs) (suc i) d below = let later : f (get_or xs i d) < total (map f xs) = total-at f xs i d (omega arith) in omega arith

-- a term in a list weighs less than the list
pub weight-at : (ts : List Term) (i : ℕ) (t : Term) → i < length ts → t ≡ get_or ts i t → weight t < weights ts
weight-at ts i t below e = subst (λ (u : Term). weight u < weights ts) (sym e) (total-at weight ts i t below)

pub pattern_weight-at : (ps : List Pattern) (i : ℕ) (p : Pattern) → i < length ps → p ≡ get_or ps i p → pattern_weight p < pattern_weights ps
pattern_weight-at ps i p below e = subst (λ (q : Pattern). pattern_weight q < pattern_weights ps) (sym e) (total-at pattern_weight ps i p below)

pub ruleset falls = (weight-app, pattern_weight-app, weight-at, pattern_weight-at)
