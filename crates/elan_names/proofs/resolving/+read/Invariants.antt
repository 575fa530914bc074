use Rattle.std.proofs.Common.{◌+◌, ◌*◌}
use Rattle.elan_phrases.specs.Plans.{plan_weight, plan_weights}
use Rattle.elan_names.proofs.resolving.+read.Given as goal

abbrev pub decreases-all_onto : goal.decreases-all_onto
decreases-all_onto l = 5 * plan_weights l.plans.now

abbrev pub decreases-all : goal.decreases-all
decreases-all l = 5 * plan_weights l.plans.now + 1

abbrev pub decreases-each_onto : goal.decreases-each_onto
decreases-each_onto l = 5 * plan_weights l.plans.now

abbrev pub decreases-each : goal.decreases-each
decreases-each l = 5 * plan_weights l.plans.now + 1

abbrev pub decreases-over : goal.decreases-over
decreases-over l = 5 * plan_weights l.plans.now + 2

abbrev pub decreases-inner : goal.decreases-inner
decreases-inner l = 5 * plan_weight l.plan.now + 1

abbrev pub decreases-read : goal.decreases-read
decreases-read l = 5 * plan_weight l.plan.now

abbrev pub decreases-applied_at : goal.decreases-applied_at
decreases-applied_at l = 5 * plan_weights l.plans.now + 3
