use Rattle.std.proofs.Common.{◌≡◌, ◌++◌, length, map}
use Rattle.elan_lexer.specs.Text.{token_text}
use Rattle.elan_modules.specs.Sorts as spec
use Rattle.elan_modules.proofs.sorts.write_words.Given as goal

-- what was written so far and what is left make the whole
abbrev pub invariant-words : goal.invariant-words
invariant-words l =
    l.found.items ++ spec.replaced l.replacements.parameters l.replacements.sorts (map (token_text l.bytes) l.left)
    ≡ l.fn.found.items ++ spec.replaced l.replacements.parameters l.replacements.sorts (map (token_text l.bytes) l.fn.tokens)

abbrev pub decreases-words : goal.decreases-words
decreases-words l = length l.left
