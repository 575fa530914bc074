use Rattle.std.proofs.Common.{◌≡◌, map, drop}
use Rattle.elan_phrases.specs.Symbols as spec
use Rattle.elan_phrases.proofs.symbol.look_up.Given as goal

-- the rows so far have other words
abbrev pub invariant-rows : goal.invariant-rows
invariant-rows l =
    spec.look_up l.text (map (λ row. (row.0.now, row.1)) (drop l.word-index l.table))
    ≡ spec.look_up l.text (map (λ row. (row.0.now, row.1)) l.table)
