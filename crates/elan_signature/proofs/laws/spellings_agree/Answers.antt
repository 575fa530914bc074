use Rattle.elan_signature.proofs.SpellingLemmas.{name_exactly, spelled_exactly}
use Rattle.elan_signature.proofs.laws.spellings_agree.Goals as goal

pub returns-clause-names : goal.returns-clause-names
returns-clause-names c = name_exactly

pub returns-clause-spellings : goal.returns-clause-spellings
returns-clause-spellings c = spelled_exactly
