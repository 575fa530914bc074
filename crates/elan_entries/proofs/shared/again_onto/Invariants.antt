use Rattle.std.proofs.Common.{◌≡◌, ◌++◌, drop}
use Rattle.elan_entries.proofs.shared.again_onto.Given as goal

abbrev pub invariant-loop-tree : goal.invariant-loop-tree
invariant-loop-tree l = l.out ++ drop l.tree-index l.trees ≡ l.initial.out ++ l.trees
