use Rattle.elan_arms.proofs.Found.{matches-made, values-contained}
use Rattle.elan_arms.proofs.values.values_are_parts.Goals as goal

pub returns-clause-parts : goal.returns-clause-parts
returns-clause-parts c = λ shapes value p t proper h e. values-contained shapes value p t proper h e

pub returns-clause-matches : goal.returns-clause-matches
returns-clause-matches c = λ shapes p t values proper. matches-made shapes p t proper values
