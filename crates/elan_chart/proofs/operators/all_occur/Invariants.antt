use Rattle.std.proofs.Common.{◌≡◌, drop}
use Rattle.std.specs.List.{list_all}
use Rattle.elan_chart.specs.Chart.{occurs}
use Rattle.elan_chart.proofs.operators.all_occur.Given as goal

abbrev pub invariant-loop-piece : goal.invariant-loop-piece
invariant-loop-piece l = list_all (occurs l.tokens) (drop l.piece-index l.pieces) ≡ list_all (occurs l.tokens) l.pieces
