use Rattle.std.proofs.Common.{◌≡◌, ◌+◌, ◌≤◌, length}
use Rattle.elan_lexer.specs.Places as spec
use Rattle.elan_lexer.proofs.places.place_after.Given as goal

-- moving on over what is left comes to the same place, and each byte moves on by at most one
abbrev pub invariant-bytes : goal.invariant-bytes
invariant-bytes l =
    (spec.place_after l.at l.left ≡ spec.place_after l.fn.from l.fn.text)
    × (l.at.line + length l.left ≤ l.fn.from.line + length l.fn.text)
    × (l.at.column + length l.left ≤ l.fn.from.column + length l.fn.text)

abbrev pub decreases-bytes : goal.decreases-bytes
decreases-bytes l = length l.left
