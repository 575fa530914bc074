use Rattle.elan_signature.proofs.LawLemmas.{unknown_exactly}
use Rattle.elan_signature.proofs.laws.sorts_are_unknown.Goals as goal

pub returns : goal.returns
returns c = unknown_exactly
