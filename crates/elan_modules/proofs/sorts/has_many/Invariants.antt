use Rattle.std.proofs.Common.{◌≡◌, ◌<◌, ◌+◌, length, map}
use Rattle.elan_lexer.specs.Text.{token_text}
use Rattle.elan_modules.specs.Sorts as spec
use Rattle.elan_modules.proofs.sorts.has_many.Given as goal

-- the separators so far and those of the words that are left make the whole
abbrev pub invariant-words : goal.invariant-words
invariant-words l =
    (l.count + spec.separators (spec.replaced l.replacements.parameters l.replacements.sorts (map (token_text l.bytes) l.left))
    ≡ spec.separators (spec.replaced l.replacements.parameters l.replacements.sorts (map (token_text l.bytes) l.tokens))) × (l.count < 64)

abbrev pub decreases-words : goal.decreases-words
decreases-words l = length l.left
