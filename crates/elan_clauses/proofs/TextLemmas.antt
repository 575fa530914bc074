-- The sort of a pattern by the kind of its outermost node.
use Rattle.std.proofs.Common.{◌≡◌, refl, ap, sym, ◌∙◌, ℕ, ℤ, List}
use Rattle.std.specs.Prelude.{Some, None, slice_get}
use Rattle.elan_terms.specs.declared.tree.OpId.{OpId}
use Rattle.elan_terms.specs.declared.tree.SortId.{SortId}
use Rattle.elan_terms.specs.declared.tree.Pattern.{Pattern}
use Rattle.elan_terms.specs.declared.tree.PatternNode as pattern
use Rattle.elan_program.specs.declared.signature.Signature.{Signature}
use Rattle.std.proofs.Common.{map}
use Rattle.elan_terms.proofs.TreeLemmas.{fold_pattern-app}
use Rattle.elan_terms.proofs.WeightLemmas.{falls}
use Rattle.elan_program.specs.Extension.{var_pattern, int_pattern, app_pattern}
use Rattle.elan_clauses.specs.Rules.{place_in, numbered_so}
use Rattle.elan_clauses.specs.Texts.{Bound, head_sort, made_by}

-- ---- patterns that are numbered

module _ (order : Bound) (p : Pattern) where
  pub numbered-var : (x : ℕ) (s : SortId) → p.node ≡ pattern.Var x s → numbered_so order p ≡ var_pattern (place_in order x) s
  unfolding numbered_so
  numbered-var x s e = ap (λ n. numbered_so order (record { node = n })) e

  pub numbered-int : (z : ℤ) → p.node ≡ pattern.Int z → numbered_so order p ≡ int_pattern z
  unfolding numbered_so
  numbered-int z e = ap (λ n. numbered_so order (record { node = n })) e

  pub numbered-app : (op : OpId) (args : List Pattern) → p.node ≡ pattern.App op args → numbered_so order p ≡ app_pattern op (map (numbered_so order) args)
  unfolding numbered_so
  numbered-app op args e = ap (λ n. numbered_so order (record { node = n })) e ∙ fold_pattern-app (λ x s. var_pattern (place_in order x) s) int_pattern app_pattern op args

pub ruleset numbered_rules = (falls, numbered-var, numbered-int, numbered-app)

module _ (g : Signature) (n : pattern.PatternNode) where
  pub head-var : (x : ℕ) (s : SortId) → n ≡ pattern.Var x s → head_sort g n ≡ Some s
  head-var x s e = ap (head_sort g) e

  pub head-int : (z : ℤ) → n ≡ pattern.Int z → head_sort g n ≡ g.int
  head-int z e = ap (head_sort g) e

  pub head-app : (op : OpId) (args : List Pattern) → n ≡ pattern.App op args → head_sort g n ≡ made_by (slice_get g.operators op.0)
  head-app op args e = ap (head_sort g) e

pub ruleset head_rules = (head-var, head-int, head-app)
