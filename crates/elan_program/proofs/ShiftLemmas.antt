-- The equations of patterns in which a number is left free, and of heads.
use Rattle.std.proofs.Common.{◌≡◌, ap, sym, ◌∙◌, ℕ, ℤ, List, map}
use Rattle.std.specs.Prelude.{Some, None}
use Rattle.elan_terms.specs.declared.tree.OpId.{OpId}
use Rattle.elan_terms.specs.declared.tree.SortId.{SortId}
use Rattle.elan_terms.specs.declared.tree.Pattern.{Pattern}
use Rattle.elan_terms.specs.declared.tree.PatternNode as pattern
use Rattle.elan_terms.proofs.TreeLemmas.{fold_pattern-app}
use Rattle.elan_terms.proofs.WeightLemmas.{falls}
use Rattle.elan_program.specs.Extension.{shifted, moved, var_pattern, int_pattern, app_pattern, head_op, head_node}

module _ (k : ℕ) (p : Pattern) where
  pub shifted-var : (x : ℕ) (s : SortId) → p.node ≡ pattern.Var x s → shifted k p ≡ var_pattern (moved k x) s
  unfolding shifted
  shifted-var x s e = ap (λ n. shifted k (record { node = n })) e

  pub shifted-int : (z : ℤ) → p.node ≡ pattern.Int z → shifted k p ≡ int_pattern z
  unfolding shifted
  shifted-int z e = ap (λ n. shifted k (record { node = n })) e

  pub shifted-app : (op : OpId) (args : List Pattern) → p.node ≡ pattern.App op args → shifted k p ≡ app_pattern op (map (shifted k) args)
  unfolding shifted
  shifted-app op args e = ap (λ n. shifted k (record { node = n })) e ∙ fold_pattern-app (λ x s. var_pattern (moved k x) s) int_pattern app_pattern op args

pub ruleset shifts = (falls, shifted-var, shifted-int, shifted-app)

module _ (p : Pattern) where
  pub head-app : (op : OpId) (args : List Pattern) → p.node ≡ pattern.App op args → Some op ≡ head_op p
  head-app op args e = ap head_node (sym e)

  pub head-var : (x : ℕ) (s : SortId) → p.node ≡ pattern.Var x s → None ≡ head_op p
  head-var x s e = ap head_node (sym e)

  pub head-int : (z : ℤ) → p.node ≡ pattern.Int z → None ≡ head_op p
  head-int z e = ap head_node (sym e)

pub ruleset heads = (head-app, head-var, head-int)
