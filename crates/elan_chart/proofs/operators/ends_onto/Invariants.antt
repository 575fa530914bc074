use Rattle.std.proofs.Common.{◌≡◌, ◌++◌, ◌+◌, drop, length}
use Rattle.elan_chart.specs.Chart.{ends}
use Rattle.elan_chart.proofs.operators.ends_onto.Given as goal

abbrev pub invariant-operators : goal.invariant-operators
invariant-operators l = record {
  -- the numbers that are left fit
  fits : l.number + length (drop l.operator-index l.operators) ≡ l.initial.number + length l.operators;
  -- those so far and those that are left are all
  all : l.out ++ ends l.tokens l.number (drop l.operator-index l.operators) ≡ l.initial.out ++ ends l.tokens l.initial.number l.operators;
}
