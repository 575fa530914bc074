use Rattle.std.proofs.Common.{◌≡◌, ◌+◌, drop, length}
use Rattle.elan_entries.specs.Pieces.{source}
use Rattle.elan_chart.specs.Chart.{by_sort}
use Rattle.elan_chart.proofs.operators.injections_onto.Given as goal

abbrev pub invariant-operators : goal.invariant-operators
invariant-operators l = record {
  -- the numbers that are left fit
  fits : l.number + length (drop l.operator-index l.operators) ≡ l.initial.number + length l.operators;
  -- those so far and those that are left are all
  all : by_sort source l.table.items l.number (drop l.operator-index l.operators) ≡ by_sort source l.initial.table.items l.initial.number l.operators;
}
