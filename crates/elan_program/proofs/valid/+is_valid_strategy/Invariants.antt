use Rattle.std.proofs.Common.{◌+◌, ◌*◌}
use Rattle.elan_program.specs.Strategies.{strategy_weight, strategy_weights}
use Rattle.elan_program.proofs.valid.+is_valid_strategy.Given as goal

abbrev pub decreases-are_valid_strategies : goal.decreases-are_valid_strategies
decreases-are_valid_strategies l = 2 * strategy_weights l.strategies.now

abbrev pub decreases-are_valid_each : goal.decreases-are_valid_each
decreases-are_valid_each l = 2 * strategy_weights l.strategies.now

abbrev pub decreases-is_valid_congruence : goal.decreases-is_valid_congruence
decreases-is_valid_congruence l = 2 * strategy_weights l.arms.now + 1

abbrev pub decreases-is_valid_strategy : goal.decreases-is_valid_strategy
decreases-is_valid_strategy l = 2 * strategy_weight l.strategy.now
