use Rattle.elan_lexer.proofs.Inside.{inside, count}
use Rattle.elan_lexer.proofs.laws.tokens_inside.Goals as goal

pub returns-clause-within : goal.returns-clause-within
returns-clause-within c = inside

pub returns-clause-count : goal.returns-clause-count
returns-clause-count c = count
