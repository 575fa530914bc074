use Rattle.elan_modules.proofs.ReadingLemmas.{is_read, is_unread, reads, unreads}
use Rattle.elan_modules.proofs.laws.texts_are_read.Goals as goal

pub returns-clause-found : goal.returns-clause-found
returns-clause-found c = λ name bytes text outline unreserved.
    (is_read name bytes unreserved text outline, reads name bytes unreserved text outline)

pub returns-clause-refused : goal.returns-clause-refused
returns-clause-refused c = λ name bytes refusal unreserved.
    (is_unread name bytes unreserved refusal, unreads name bytes unreserved refusal)
