use Rattle.std.specs.Prelude.{length}
use Rattle.elan_program.proofs.spelling.+are_in_word.Given as goal

abbrev pub decreases-are_in_word : goal.decreases-are_in_word
decreases-are_in_word l = length l.bytes.now
