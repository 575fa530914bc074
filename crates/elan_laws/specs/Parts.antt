-- Which terms are parts of a term.
use Rattle.std.specs.Prelude.{◌≡◌, ℕ, suc, ◌≤◌, if◌then◌else◌, List, [], ◌∷◌, length, IsTrue}
use Rattle.std.specs.List.{Contains}
use Rattle.elan_terms.specs.declared.tree.OpId.{OpId}
use Rattle.elan_terms.specs.declared.tree.Term.{Term}
use Rattle.elan_terms.specs.declared.tree.Shapes.{Shapes}
use Rattle.elan_terms.specs.Trees.{app_term}
use Rattle.elan_terms.specs.Term.{same, is_ac}

-- some of the items, each as often as it is there or less often, in their order
pub data SomeOf {X : Type 0} : List X → List X → Type 0 where
  none : SomeOf [] []
  taken : {x : X} {us ts : List X} → SomeOf us ts → SomeOf (x ∷ us) (x ∷ ts)
  left : {x : X} {us ts : List X} → SomeOf us ts → SomeOf us (x ∷ ts)

-- p is the term or one of its subterms, or an associative and commutative operator over at least two of the arguments
-- that it has somewhere in the term
pub data IsPart (shapes : Shapes) (p : Term) : Term → Type 0 where
  whole : {t : Term} → p ≡ t → IsPart shapes p t
  inside : (op : OpId) (ts : List Term) (t : Term) → Contains ts t → IsPart shapes p t → IsPart shapes p (app_term op ts)
  some : (op : OpId) (ts us : List Term) → IsTrue (is_ac shapes op) → SomeOf us ts → 2 ≤ length us → p ≡ app_term op us → IsPart shapes p (app_term op ts)

-- how often a term stands in a list
abbrev pub times : Term → List Term → ℕ
times t [] = 0
times t (u ∷ us) = if same t u then suc (times t us) else times t us
