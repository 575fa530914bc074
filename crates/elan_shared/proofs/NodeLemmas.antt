-- The arguments and the weight of a term that is known as a whole.
use Rattle.std.proofs.Common.{◌≡◌, ap, ◌∙◌, ◌+◌, ◌<◌, ℕ, ℤ, List, [], arith}
use Rattle.elan_terms.specs.declared.tree.OpId.{OpId}
use Rattle.elan_terms.specs.declared.tree.Term.{Term}
use Rattle.elan_terms.specs.Trees.{int_term, app_term}
use Rattle.elan_terms.specs.Weight.{weight, weights}
use Rattle.elan_terms.proofs.TreeLemmas.{case_term-app}
use Rattle.elan_terms.proofs.WeightLemmas.{weight-app}
use Rattle.elan_shared.specs.Nodes.{arguments}

pub arguments-int : (t : Term) (z : ℤ) → t ≡ int_term z → arguments t ≡ []
unfolding arguments
arguments-int t z e = ap arguments e

pub arguments-app : (t : Term) (op : OpId) (ts : List Term) → t ≡ app_term op ts → arguments t ≡ ts
unfolding arguments
arguments-app t op ts e = ap arguments e ∙ case_term-app (λ _. []) (λ _ ts. ts) op ts

-- the arguments together weigh less than the whole
pub args_fall : (t : Term) (op : OpId) (ts : List Term) (n : ℕ) → weight t ≡ n → t ≡ app_term op ts → weights ts < n
args_fall t op ts n w e = let one : weight t ≡ 1 + weights ts = weight-app t op ts (ap (λ u. u.node) e) in omega arith
