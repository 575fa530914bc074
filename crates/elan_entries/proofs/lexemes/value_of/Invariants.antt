use Rattle.std.proofs.Common.{◌≡◌, length}
use Rattle.elan_lexer.specs.Bytes.{value, value_from}
use Rattle.elan_entries.proofs.lexemes.value_of.Given as goal

-- the value so far with the digits that are left is the whole value
abbrev pub invariant-digits : goal.invariant-digits
invariant-digits l = value_from l.n l.left ≡ value l.digits

abbrev pub decreases-digits : goal.decreases-digits
decreases-digits l = length l.left
