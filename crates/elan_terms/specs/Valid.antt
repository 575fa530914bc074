-- Which terms the operators and sorts of some shapes allow.
use Rattle.std.specs.Prelude.{◌≡◌, ◌≤◌, ◌<◌, ◌^◌, unsigned_abs, ℤ, Option, Some, None, List, length, slice_get, is_some, MatchBool, IsTrue}
use Rattle.std.specs.List.{All, AllZip}
use Rattle.elan_terms.specs.declared.tree.OpId.{OpId}
use Rattle.elan_terms.specs.declared.tree.SortId.{SortId}
use Rattle.elan_terms.specs.declared.tree.Term.{Term}
use Rattle.elan_terms.specs.declared.tree.Shape.{Shape}
use Rattle.elan_terms.specs.declared.tree.Shapes.{Shapes}
use Rattle.elan_terms.specs.Term.{sort_of}
use Rattle.elan_terms.specs.Nodes.{Throughout}

-- the sort of a term is there and is this one
abbrev pub HasSort : Shapes → Term → SortId → Type 0
HasSort shapes t s = sort_of shapes t ≡ Some s

-- an integer lies between -9,223,372,036,854,775,807 and 9,223,372,036,854,775,807, and there is a sort of integers
abbrev pub IsNumber : Shapes → ℤ → Type 0
IsNumber shapes z = (unsigned_abs z < 2 ^ 63) × IsTrue (is_some shapes.int)

-- an associative and commutative operator has at least two arguments, all of its own sort; any other has one argument
-- of each of its argument sorts, in order
abbrev pub Takes : Shapes → Shape → List Term → Type 0
Takes shapes shape ts = MatchBool shape.ac ((2 ≤ length ts) × All (λ t. HasSort shapes t shape.sort) ts) (AllZip (HasSort shapes) ts shape.args)

-- there is such an operator, and it takes these arguments
abbrev pub MayTake : Shapes → Option Shape → List Term → Type 0
MayTake shapes None ts = ⊥
MayTake shapes (Some shape) ts = Takes shapes shape ts

-- the same of the operator with this number
abbrev pub IsAllowed : Shapes → OpId → List Term → Type 0
IsAllowed shapes op ts = MayTake shapes (slice_get shapes.shapes op.0) ts

-- each integer and each application in the term is allowed
abbrev pub IsValid : Shapes → Term → Type 0
IsValid shapes = Throughout (IsNumber shapes) (IsAllowed shapes)

-- the term is valid, and has this sort
abbrev pub IsValidOf : Shapes → SortId → Term → Type 0
IsValidOf shapes s t = IsValid shapes t × HasSort shapes t s
