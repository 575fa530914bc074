use Rattle.std.proofs.Common.{◌≡◌, ◌++◌, length, map}
use Rattle.elan_signature.specs.Cycles as spec
use Rattle.elan_signature.proofs.cycle.edges_of.Given as goal

-- the edges so far and those that are left are all edges
abbrev pub invariant-injections : goal.invariant-injections
invariant-injections l = l.edges ++ map spec.edge_of l.left ≡ map spec.edge_of l.all

abbrev pub decreases-injections : goal.decreases-injections
decreases-injections l = length l.left
