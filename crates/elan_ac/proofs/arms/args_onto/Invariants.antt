use Rattle.std.proofs.Common.{◌≡◌, ◌++◌, take}
use Rattle.elan_shared.specs.Nodes.{arguments}
use Rattle.elan_table.specs.Rows.{terms}
use Rattle.elan_ac.proofs.arms.args_onto.Given as goal

abbrev pub invariant-loop-place : goal.invariant-loop-place
invariant-loop-place g l = terms l.out.items ≡ terms l.fn.out.items ++ take l.place (arguments l.term.value)
