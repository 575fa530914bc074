-- The equations of normalising at one level of meaning, at plain lists.
use Rattle.std.proofs.Common.{◌≡◌, refl, ◌∙◌, ap, ℕ, ℤ, List, map}
use Rattle.elan_terms.specs.declared.tree.OpId.{OpId}
use Rattle.elan_terms.specs.declared.tree.SortId.{SortId}
use Rattle.elan_terms.specs.declared.tree.Term.{Term}
use Rattle.elan_terms.specs.declared.tree.TermNode as term
use Rattle.elan_terms.specs.declared.tree.Pattern.{Pattern}
use Rattle.elan_terms.specs.declared.tree.PatternNode as pattern
use Rattle.elan_terms.specs.Trees.{int_term}
use Rattle.elan_terms.specs.Term.{node}
use Rattle.elan_terms.proofs.TreeLemmas.{fold_term-app, fold_pattern-app}
use Rattle.elan_program.specs.declared.program.Program.{Program}
use Rattle.elan_program.specs.Signature.{shapes_of}
use Rattle.elan_program.specs.Extension.{int_pattern, app_pattern}
use Rattle.elan_meaning.specs.declared.item.Entry.{Entry}
use Rattle.elan_meaning.specs.declared.item.Item.TheVariants.{Res}
use Rattle.elan_meaning.specs.Items.{one_of, after, then_after, in_turn}
use Rattle.elan_meaning.specs.Meaning as meaning
use Rattle.elan_meaning.specs.Meaning.{Meaning, value_of, pattern_of}

module _ (p : Program) (M : Meaning) (q : Pattern) (a : List Term) (n : ℕ) where
  pub normal-var : (x : ℕ) (sort : SortId) → q.node ≡ pattern.Var x sort → meaning.normal p M q a n ≡ Res (value_of a x) n
  unfolding meaning.normal
  normal-var x sort e = ap (λ i. meaning.normal p M (record { node = i }) a n) e

  pub normal-int : (z : ℤ) → q.node ≡ pattern.Int z → meaning.normal p M q a n ≡ meaning.of_node p M (int_term z) n
  unfolding meaning.normal
  normal-int z e = ap (λ i. meaning.normal p M (record { node = i }) a n) e

  pub normal-app : (op : OpId) (args : List Pattern) → q.node ≡ pattern.App op args
      → meaning.normal p M q a n ≡ one_of (in_turn (map (meaning.normal p M) args) a n) (meaning.of_args p M op)
  unfolding meaning.normal
  normal-app op args e =
      ap (λ i. meaning.normal p M (record { node = i }) a n) e
      ∙ ap (λ f. f a n) (fold_pattern-app (meaning.of_var p M) (meaning.of_int p M) (meaning.of_app p M) op args)

module _ (p : Program) (M : Meaning) where
  pub of_args-is : (op : OpId) (us : List Term) (m : ℕ) → meaning.of_args p M op us m ≡ meaning.of_node p M (node (shapes_of p.signature) op us) m
  unfolding meaning.of_args
  of_args-is op us m = refl

pub then_after-is : (k : ℕ → Entry) (u : Term) (m : ℕ) → then_after k u m ≡ after u (k m)
unfolding then_after
then_after-is k u m = refl

-- ---- terms as patterns

pub pattern_of-int : (t : Term) (z : ℤ) → t.node ≡ term.Int z → pattern_of t ≡ int_pattern z
unfolding pattern_of
pattern_of-int t z e = ap (λ i. pattern_of (record { node = i })) e

pub pattern_of-app : (t : Term) (op : OpId) (args : List Term) → t.node ≡ term.App op args → pattern_of t ≡ app_pattern op (map pattern_of args)
unfolding pattern_of
pattern_of-app t op args e = ap (λ i. pattern_of (record { node = i })) e ∙ fold_term-app int_pattern app_pattern op args

pub ruleset normals = (normal-var, normal-int, normal-app, of_args-is, then_after-is)

pub ruleset patterns = (pattern_of-int, pattern_of-app)
