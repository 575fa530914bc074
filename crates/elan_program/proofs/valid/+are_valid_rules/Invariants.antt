use Rattle.std.specs.Prelude.{length}
use Rattle.elan_program.proofs.valid.+are_valid_rules.Given as goal

abbrev pub decreases-are_valid_rules : goal.decreases-are_valid_rules
decreases-are_valid_rules l = length l.rules.now
