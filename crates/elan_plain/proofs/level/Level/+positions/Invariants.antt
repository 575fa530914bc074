use Rattle.std.proofs.Common.{◌≡◌, ◌++◌, map, drop}
use Rattle.elan_terms.specs.Weight.{weight, weights}
use Rattle.elan_meaning.specs.Items.{rows_of, then_before}
use Rattle.elan_plain.specs.Closures.{meant}
use Rattle.elan_plain.specs.Level as spec
use Rattle.elan_plain.proofs.level.Level.+positions.Given as goal

abbrev pub decreases-positions : goal.decreases-positions
decreases-positions g l = weight l.term.now

abbrev pub decreases-rows : goal.decreases-rows
decreases-rows g l = weights l.terms.now

-- the rows so far and those of the results that are left make all
abbrev pub invariant-rows-loop-item : goal.invariant-rows-loop-item
invariant-rows-loop-item g l =
    let k : _ = then_before (spec.rows l.world l.self.level (map (spec.positions l.world l.self.level l.sort (meant l.strategy)) l.rest)) in
    l.out ++ rows_of (drop l.item-index l.item-items) k ≡ rows_of l.item-items k
