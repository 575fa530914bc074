use Rattle.elan_modules.proofs.OrderLemmas.{program_ordered}
use Rattle.elan_modules.proofs.laws.programs_are_ordered.Goals as goal

pub returns : goal.returns
returns c = record { ordered = program_ordered }
