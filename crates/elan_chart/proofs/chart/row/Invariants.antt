use Rattle.std.proofs.Common.{◌≡◌, drop, []}
use Rattle.std.specs.Option.{option_copied}
use Rattle.elan_chart.specs.Chart as spec
use Rattle.elan_chart.proofs.chart.row.Given as goal

abbrev pub invariant-loop-last : goal.invariant-loop-last
invariant-loop-last l =
    spec.row (spec.seen l.scope) (option_copied l.before) l.first (drop l.last-index l.tokens) l.below l.row
    ≡ spec.row (spec.seen l.scope) (option_copied l.before) l.first l.tokens l.below []
