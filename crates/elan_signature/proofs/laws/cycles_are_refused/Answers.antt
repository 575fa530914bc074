use Rattle.elan_signature.proofs.LawLemmas.{no_cycle_exactly, first_cycle_exactly}
use Rattle.elan_signature.proofs.laws.cycles_are_refused.Goals as goal

pub returns-clause-none : goal.returns-clause-none
returns-clause-none c = no_cycle_exactly

pub returns-clause-first : goal.returns-clause-first
returns-clause-first c = first_cycle_exactly
