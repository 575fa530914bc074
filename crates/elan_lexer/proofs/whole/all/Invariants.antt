use Rattle.std.proofs.Common.{◌≡◌, ◌+◌, ◌≤◌, length}
use Rattle.elan_lexer.specs.Lex as spec
use Rattle.elan_lexer.proofs.whole.all.Given as goal

-- what was found, with the tokens of what is left, is the whole; no number is past the bytes that were read, and one
abbrev pub invariant-pieces : goal.invariant-pieces
invariant-pieces l =
    (spec.with_front l.found.items (spec.lex (length l.left) l.spot l.left) ≡ spec.lexed l.fn.bytes)
    × (l.spot.offset + length l.left ≡ length l.fn.bytes)
    × (l.spot.at.line + length l.left ≤ length l.fn.bytes + 1)
    × (l.spot.at.column + length l.left ≤ length l.fn.bytes + 1)

abbrev pub decreases-pieces : goal.decreases-pieces
decreases-pieces l = length l.left
