use Rattle.std.proofs.Common.{◌≡◌, ◌≤◌, length}
use Rattle.elan_lexer.specs.Bytes.{value, value_from}
use Rattle.elan_phrases.specs.Symbols.{most_priority}
use Rattle.elan_phrases.proofs.worth.small_value.Given as goal

-- the value so far, and the digits that are left
abbrev pub invariant-digits : goal.invariant-digits
invariant-digits l = (value_from l.worth l.left ≡ value l.fn.digits) × (l.worth ≤ most_priority)

abbrev pub decreases-digits : goal.decreases-digits
decreases-digits l = length l.left
