use Rattle.std.specs.Prelude.{length}
use Rattle.elan_program.proofs.sound.+has_sort_ids.Given as goal

abbrev pub decreases-has_sort_ids : goal.decreases-has_sort_ids
decreases-has_sort_ids l = length l.sorts.now
