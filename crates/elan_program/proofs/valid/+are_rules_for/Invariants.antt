use Rattle.std.specs.Prelude.{length}
use Rattle.elan_program.proofs.valid.+are_rules_for.Given as goal

abbrev pub decreases-are_rules_for : goal.decreases-are_rules_for
decreases-are_rules_for l = length l.numbers.now
