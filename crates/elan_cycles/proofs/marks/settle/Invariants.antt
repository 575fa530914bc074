use Rattle.elan_cycles.specs.Marks.{Widens, unmarked}
use Rattle.elan_cycles.proofs.marks.settle.Given as goal

-- marks were only passed along edges
abbrev pub invariant-sweeps : goal.invariant-sweeps
invariant-sweeps l = Widens l.edges l.fn.marks l.marks

abbrev pub decreases-sweeps : goal.decreases-sweeps
decreases-sweeps l = unmarked l.marks
