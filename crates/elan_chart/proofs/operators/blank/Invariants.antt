use Rattle.std.proofs.Common.{◌≡◌, ◌++◌, drop}
use Rattle.elan_chart.specs.Chart as spec
use Rattle.elan_chart.proofs.operators.blank.Given as goal

abbrev pub invariant-loop-sort : goal.invariant-loop-sort
invariant-loop-sort l = l.table.items ++ spec.blank (drop l._sort-index l.sorts) ≡ spec.blank l.sorts
