use Rattle.std.specs.Prelude.{length}
use Rattle.elan_program.proofs.valid.+do_ascend.Given as goal

abbrev pub decreases-do_ascend : goal.decreases-do_ascend
decreases-do_ascend l = length l.numbers.now
