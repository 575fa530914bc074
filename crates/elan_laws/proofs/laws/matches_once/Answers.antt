use Rattle.elan_laws.proofs.MatchLaws as laws
use Rattle.elan_laws.proofs.laws.matches_once.Goals as goal

pub returns-clause-order : goal.returns-clause-order
returns-clause-order c = λ shapes p t. laws.matches-ascend shapes p t

pub returns-clause-matches : goal.returns-clause-matches
returns-clause-matches c = λ shapes p t values v h. laws.matches-exact shapes p t v h values
