use Rattle.std.proofs.Common.{◌+◌, ◌*◌}
use Rattle.elan_program.specs.Strategies.{strategy_weight, strategy_weights}
use Rattle.elan_program.proofs.copies.+copy_strategy.Given as goal

abbrev pub decreases-copy_arms : goal.decreases-copy_arms
decreases-copy_arms l = 2 * strategy_weights l.arms.now + 1

abbrev pub decreases-copy_arms_onto : goal.decreases-copy_arms_onto
decreases-copy_arms_onto l = 2 * strategy_weights l.arms.now

abbrev pub decreases-copy_inner : goal.decreases-copy_inner
decreases-copy_inner l = 2 * strategy_weight l.inner.now + 1

abbrev pub decreases-copy_strategy : goal.decreases-copy_strategy
decreases-copy_strategy l = 2 * strategy_weight l.strategy.now
