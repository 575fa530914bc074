use Rattle.std.proofs.Common.{◌≡◌, ◌≤◌, length}
use Rattle.elan_lexer.specs.Bytes as byte
use Rattle.elan_lexer.proofs.cut.fits.Given as goal

-- the value so far, and the digits that are left
abbrev pub invariant-digits : goal.invariant-digits
invariant-digits l = (byte.value_from l.value l.left ≡ byte.value l.fn.digits) × (l.value ≤ byte.max_number)

abbrev pub decreases-digits : goal.decreases-digits
decreases-digits l = length l.left
