use Rattle.std.proofs.Common.{◌≡◌, length}
use Rattle.std.specs.List.{list_all}
use Rattle.elan_modules.specs.Modules as spec
use Rattle.elan_modules.proofs.opening.has_words.Given as goal

-- the bytes that are left decide
abbrev pub invariant-bytes : goal.invariant-bytes
invariant-bytes l = list_all spec.is_word_byte l.left ≡ list_all spec.is_word_byte l.name

abbrev pub decreases-bytes : goal.decreases-bytes
decreases-bytes l = length l.left
