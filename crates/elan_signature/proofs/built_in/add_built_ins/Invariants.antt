use Rattle.std.proofs.Common.{◌≡◌, length}
use Rattle.elan_signature.specs.BuiltIns as spec
use Rattle.elan_signature.proofs.built_in.add_built_ins.Given as goal

-- what was done so far and what is left make the whole
abbrev pub invariant-instances : goal.invariant-instances
invariant-instances l = spec.with_instances l.sorts l.signature l.left
    ≡ spec.with_instances l.sorts l.fn.signature l.instances

abbrev pub decreases-instances : goal.decreases-instances
decreases-instances l = length l.left
