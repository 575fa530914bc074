-- Which terms operands and values stand for.
use Rattle.std.specs.Prelude.{◌≡◌, ◌↔◌, Bool, Option, Some, None, List, [], ◌∷◌, IsTrue, ⊤}
use Rattle.std.specs.List.{AllZip}
use Rattle.elan_terms.specs.declared.tree.Term.{Term}
use Rattle.elan_terms.specs.Trees.{int_term}
use Rattle.elan_program.specs.declared.signature.Truth as signature
use Rattle.elan_program.specs.Builtins.{truth_of, int_of, said}
use Rattle.elan_builtin.specs.declared.operand.Operand.{Operand}
use Rattle.elan_builtin.specs.declared.operand.Operand.TheVariants.{Int, Truth, Other}
use Rattle.elan_builtin.specs.declared.operand.Reduced.{Reduced}
use Rattle.elan_builtin.specs.declared.operand.Reduced.TheVariants as value

-- an integer stands for itself as a term, a truth value for its constant, and any other operand for a term that is neither an integer nor one of the two constants
abbrev pub Stands : Option signature.Truth → Operand → Term → Type 0
Stands truth (Int z) t = t ≡ int_term z
Stands truth (Truth b) t = truth_of truth t ≡ Some b
Stands truth Other t = (int_of t ≡ None) × (truth_of truth t ≡ None)

-- the same of each
abbrev pub StandFor : Option signature.Truth → List Operand → List Term → Type 0
StandFor truth = AllZip (Stands truth)

-- whether two terms are the same; of another number of terms nothing is told
abbrev pub TellsSame : Bool → List Term → Type 0
TellsSame same (t ∷ u ∷ []) = IsTrue same ↔ (t ≡ u)
TellsSame same _ = ⊤

-- the term of a value, if there is one
abbrev pub term_of : Option signature.Truth → Option Reduced → Option Term
term_of truth None = None
term_of truth (Some (value.Int z)) = Some (int_term z)
term_of truth (Some (value.Truth b)) = said truth b
