use Rattle.std.proofs.Common.{◌≡◌, ◌++◌, map, drop}
use Rattle.elan_program.specs.Signature as spec
use Rattle.elan_program.proofs.signature.Signature.shapes.Given as goal

-- the shapes so far and those of the operators that are left make all
abbrev pub invariant-loop-operator : goal.invariant-loop-operator
invariant-loop-operator l = l.shapes ++ map spec.shape_of (drop l.operator-index l.operator-items) ≡ map spec.shape_of l.operator-items
