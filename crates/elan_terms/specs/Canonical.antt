-- Which terms are in canonical form.
use Rattle.std.specs.Prelude.{Bool, false, ◌==◌, List, IsTrue, IsFalse}
use Rattle.std.specs.List.{All}
use Rattle.elan_terms.specs.declared.tree.OpId.{OpId}
use Rattle.elan_terms.specs.declared.tree.Term.{Term}
use Rattle.elan_terms.specs.declared.tree.Shapes.{Shapes}
use Rattle.elan_terms.specs.Trees.{case_term}
use Rattle.elan_terms.specs.Term.{is_ac}
use Rattle.elan_terms.specs.Nodes.{Throughout}
use Rattle.elan_terms.specs.Ascending.{Ascends}

-- whether a term is an application of this operator
abbrev pub is_headed : OpId → Term → Bool
is_headed op = case_term (λ _. false) (λ f _. op.0 == f.0)

-- under an associative and commutative operator no argument is headed by it, and the arguments ascend
abbrev pub IsSettled : Shapes → OpId → List Term → Type 0
IsSettled shapes op ts = IsTrue (is_ac shapes op) → All (λ t. IsFalse (is_headed op t)) ts × Ascends ts

-- each application in the term is so
abbrev pub IsCanonical : Shapes → Term → Type 0
IsCanonical shapes = Throughout (λ _. Unit {0}) (IsSettled shapes)
