use Rattle.std.proofs.Common.{◌≡◌, ◌++◌, length, map}
use Rattle.elan_lexer.specs.Text.{token_text}
use Rattle.elan_modules.specs.Sorts as spec
use Rattle.elan_modules.proofs.sorts.arguments_from.Given as goal

-- what was found so far and what is left make the whole
abbrev pub invariant-words : goal.invariant-words
invariant-words l =
    l.found ++ spec.arguments_from l.at l.first l.depth (map (token_text l.bytes) l.left)
    ≡ spec.arguments_from l.start l.start 0 (map (token_text l.bytes) l.tokens)

abbrev pub decreases-words : goal.decreases-words
decreases-words l = length l.left
