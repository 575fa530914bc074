-- What a signature says of terms.
use Rattle.std.specs.Prelude.{Option, Some, None, map, slice_get}
use Rattle.elan_terms.specs.declared.tree.OpId.{OpId}
use Rattle.elan_terms.specs.declared.tree.Shape.{Shape}
use Rattle.elan_terms.specs.declared.tree.Shapes.{Shapes}
use Rattle.elan_program.specs.declared.signature.Builtin.{Builtin}
use Rattle.elan_program.specs.declared.signature.Operator.{Operator}
use Rattle.elan_program.specs.declared.signature.Signature.{Signature}

-- what terms need to know of an operator
abbrev pub shape_of : Operator → Shape
shape_of o = record { args = o.args; sort = o.sort; ac = o.ac }

-- what terms need to know of all operators, and which sort the integers have
unfoldable pub shapes_of : Signature → Shapes
shapes_of g = record { shapes = map shape_of g.operators; int = g.int }

-- the built-in operation that an operator names, if there is such an operator and it names one
abbrev pub builtin_of : Option Operator → Option Builtin
builtin_of None = None
builtin_of (Some o) = o.builtin

-- the built-in operation of the operator with this number
unfoldable pub builtin_at : Signature → OpId → Option Builtin
builtin_at g op = builtin_of (slice_get g.operators op.0)
