use Rattle.std.proofs.Common.{◌≡◌, ◌+◌, length}
use Rattle.elan_lexer.specs.Bytes.{is_in}
use Rattle.elan_lexer.specs.Cut as spec
use Rattle.elan_lexer.proofs.cut.run.Given as goal

-- the bytes so far, and those that follow in what is left
abbrev pub invariant-bytes : goal.invariant-bytes
invariant-bytes l =
    (l.count + spec.run (is_in l.class) l.left ≡ spec.run (is_in l.class) l.fn.bytes)
    × (l.count + length l.left ≡ length l.fn.bytes)

abbrev pub decreases-bytes : goal.decreases-bytes
decreases-bytes l = length l.left
