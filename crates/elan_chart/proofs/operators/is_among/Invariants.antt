use Rattle.std.proofs.Common.{◌≡◌, drop}
use Rattle.std.specs.List.{list_any}
use Rattle.std.specs.Str.{bytes_eq}
use Rattle.elan_chart.proofs.operators.is_among.Given as goal

abbrev pub invariant-loop-token : goal.invariant-loop-token
invariant-loop-token l = list_any (λ t. bytes_eq l.word t.text) (drop l.token-index l.tokens) ≡ list_any (λ t. bytes_eq l.word t.text) l.tokens
