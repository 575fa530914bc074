use Rattle.std.proofs.Common.{◌≡◌, ◌+◌, ◌*◌, ◌++◌, map, drop}
use Rattle.elan_program.specs.Strategies.{strategy_weight, strategy_weights}
use Rattle.elan_meaning.specs.Items.{on_results, rows_of, then_before}
use Rattle.elan_plain.specs.Closures.{closed, meant}
use Rattle.elan_plain.specs.Level as spec
use Rattle.elan_plain.proofs.level.Level.+strategy.Given as goal

abbrev pub decreases-strategy : goal.decreases-strategy
decreases-strategy g l = 2 * strategy_weight (meant l.closure) + 1

abbrev pub decreases-step : goal.decreases-step
decreases-step g l = 2 * strategy_weight (meant l.closure)

abbrev pub decreases-sequence : goal.decreases-sequence
decreases-sequence g l = 2 * strategy_weights (map (closed l.actuals.now) l.arms.now)

abbrev pub decreases-all : goal.decreases-all
decreases-all g l = 2 * strategy_weights (map (closed l.actuals.now) l.arms.now)

abbrev pub decreases-first_of : goal.decreases-first_of
decreases-first_of g l = 2 * strategy_weights (map (closed l.actuals.now) l.arms.now)

abbrev pub decreases-congruence : goal.decreases-congruence
decreases-congruence g l = 2 * strategy_weights (map (closed l.actuals.now) l.arms.now) + 1

abbrev pub decreases-results : goal.decreases-results
decreases-results g l = 2 * strategy_weights (map (closed l.actuals.now) l.arms.now)

abbrev pub decreases-result_rows : goal.decreases-result_rows
decreases-result_rows g l = 2 * strategy_weights (map (closed l.actuals.now) l.arms.now) + 1

-- the list so far and that of the results that are left make all
abbrev pub invariant-sequence-loop-item : goal.invariant-sequence-loop-item
invariant-sequence-loop-item g l =
    let k : _ = spec.sequence l.world l.self.level (map (spec.strategy l.world l.self.level) (map (closed l.actuals) l.rest)) in
    l.out ++ on_results (drop l.item-index l.item-items) k ≡ on_results l.item-items k

-- the rows so far and those of the results that are left make all
abbrev pub invariant-result_rows-loop-item : goal.invariant-result_rows-loop-item
invariant-result_rows-loop-item g l =
    let fs : _ = map (spec.strategy l.world l.self.level) (map (closed l.actuals) l.arms) in
    let k : _ = then_before (spec.rows l.world l.self.level (spec.paired l.world l.self.level fs l.terms)) in
    l.out ++ rows_of (drop l.item-index l.item-items) k ≡ rows_of l.item-items k
