use Rattle.std.proofs.Common.{◌≡◌, ◌+◌, length}
use Rattle.elan_lexer.specs.Cut as spec
use Rattle.elan_lexer.proofs.Counts.{plus}
use Rattle.elan_lexer.proofs.cut.close.Given as goal

-- the bytes so far, and those up to the end in what is left
abbrev pub invariant-bytes : goal.invariant-bytes
invariant-bytes l =
    (plus l.count (spec.close l.left) ≡ spec.close l.fn.bytes)
    × (l.count + length l.left ≡ length l.fn.bytes)

abbrev pub decreases-bytes : goal.decreases-bytes
decreases-bytes l = length l.left
