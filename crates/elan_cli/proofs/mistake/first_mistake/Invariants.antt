use Rattle.std.proofs.Common.{◌≡◌, [], take, drop}
use Rattle.elan_cli.specs.Line as spec
use Rattle.elan_cli.specs.Words.{texts}
use Rattle.elan_cli.proofs.mistake.first_mistake.Given as goal

-- no word so far is refused
abbrev pub invariant-words : goal.invariant-words
invariant-words l =
    spec.first_mistake l.plain [] (texts l.words)
    ≡ spec.first_mistake l.plain (texts (take l.at l.words)) (texts (drop l.at l.words))
