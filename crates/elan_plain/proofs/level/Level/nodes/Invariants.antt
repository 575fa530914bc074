use Rattle.std.proofs.Common.{◌≡◌, ◌++◌, drop}
use Rattle.elan_meaning.specs.Items.{items_of}
use Rattle.elan_plain.specs.Closures.{meant}
use Rattle.elan_plain.specs.Level as spec
use Rattle.elan_plain.proofs.level.Level.nodes.Given as goal

-- the list so far and that of the rows that are left make all
abbrev pub invariant-loop-row : goal.invariant-loop-row
invariant-loop-row g l =
    l.out ++ items_of (drop l.row-index l.row-items) (spec.placed_node l.world l.self.level l.sort (meant l.strategy) l.op)
    ≡ items_of l.row-items (spec.placed_node l.world l.self.level l.sort (meant l.strategy) l.op)
